-- For a type that doesn't grow, two lists of answers of one stream are alike.
use Rattle.std.proofs.Common.{◌≡◌, ℕ, ◌+◌, ◌<◌, inl, inr, List, [], ◌∷◌, ◌++◌, length, sym, ap}
use Rattle.std.proofs.Common.{subst, ◌∙◌, arith}
use native.Mathlib.Decide.{dec_le}
use Rattle.postcard_shape.specs.Shape.{Shape, Grows}
use Rattle.postcard_accumulator.specs.State.{State, holding, skipping}
use Rattle.postcard_accumulator.specs.Streams.{IsAnswerOf, AreAnswersOf, IsAnswered}
use Rattle.postcard_accumulator.specs.Values.{IsOwn}
use Rattle.postcard_accumulator.specs.Laws.{IsAlike, AreAlike, AnswersAreOne, DamageStays}
use Rattle.postcard_accumulator.specs.declared.answers.Answer.{Answer}
use Rattle.postcard_accumulator.specs.declared.answers.Answer.TheVariants.{OverFull, DeserError}
use Rattle.postcard_accumulator.specs.declared.answers.Answer.TheVariants.{Success}
use Rattle.postcard_accumulator.proofs.Cutting.{zero_cut, has_zero, one_split}
use Rattle.postcard_accumulator.proofs.Fronts.{values_alike}
use Rattle.postcard_accumulator.proofs.Splitting.{split_law}

module _ {T : Type 0} (n : ℕ) (shape : Shape T) (still : ¬ Grows shape) where
  own_alike : (f : List ℕ) (x y : Answer T) → IsOwn shape f x → IsOwn shape f y → IsAlike shape x y
  own_alike f (Success v) (Success w) p q = values_alike shape f v w p q
  own_alike f (Success v) DeserError p q = absurd (q still v p)
  own_alike f (Success v) OverFull p q = absurd q
  own_alike f DeserError (Success w) p q = absurd (p still w q)
  own_alike f DeserError DeserError p q = tt
  own_alike f DeserError OverFull p q = absurd q
  own_alike f OverFull y p q = absurd p

  answer_alike : (f : List ℕ) (a b : Answer T) → IsAnswerOf n (IsOwn shape) f a → IsAnswerOf n (IsOwn shape) f b
      → IsAlike shape a b
  answer_alike f a b p q = elim (dec_le (length f + 1) n) [
    | yes l ↦ own_alike f a b (p.its_own l) (q.its_own l)
    | no l ↦ let long : n < length f + 1 = omega (arith, l) in
        rw (p.over_full long, q.over_full long) tt
  ]

  answers_alike : (fs : List (List ℕ)) (a b : List (Answer T)) → AreAnswersOf n (IsOwn shape) fs a
      → AreAnswersOf n (IsOwn shape) fs b → AreAlike shape a b
  answers_alike [] [] [] p q = tt
  answers_alike [] [] (y ∷ b) p q = absurd q
  answers_alike [] (x ∷ a) b p q = absurd p
  answers_alike (f ∷ fs) [] b p q = absurd p
  answers_alike (f ∷ fs) (x ∷ a) [] p q = absurd q
  answers_alike (f ∷ fs) (x ∷ a) (y ∷ b) p q =
      (answer_alike f x y p.0 q.0, answers_alike fs a b p.1 q.1)

  more_alike : (a b : List (Answer T)) → AreAlike shape a b
      → AreAlike shape (a ++ OverFull ∷ []) (b ++ OverFull ∷ [])
  more_alike [] [] p = (tt, tt)
  more_alike [] (y ∷ ys) p = absurd p
  more_alike (x ∷ xs) [] p = absurd p
  more_alike (x ∷ xs) (y ∷ ys) p = (p.0, more_alike xs ys p.1)

  answered_alike : (s : List ℕ) (a b : List (Answer T)) (d e : State) → IsAnswered n (IsOwn shape) s a d
      → IsAnswered n (IsOwn shape) s b e → AreAlike shape a b × (d ≡ e)
  answered_alike s a b d e p q =
      let u = one_split s p.frames q.frames p.rest q.rest p.split q.split in
      let each : AreAnswersOf n (IsOwn shape) p.frames q.parts =
      subst (λ (x : List (List ℕ)). AreAnswersOf n (IsOwn shape) x q.parts) (sym u.0) q.each in
      let same = answers_alike p.frames p.parts q.parts p.each each in
      let l1 = ap length u.1 in
      elim (dec_le (length p.rest) n) [
        | yes l ↦
            let f = p.fits l in
            let g = q.fits (omega (arith, l)) in
            (rw (f.0, g.0) same, f.1 ∙ ap holding u.1 ∙ sym g.1)
        | no l ↦
            let f = p.over (omega (arith, l)) in
            let g = q.over (omega (arith, l)) in
            (rw (f.0, g.0) (more_alike p.parts q.parts same), f.1 ∙ sym g.1)
      ]

pub alike_law : {T : Type 0} (shape : Shape T) → AnswersAreOne shape
alike_law shape still n (holding h) d e s a b p q =
    answered_alike n shape still (h ++ s) a b d e p q
alike_law shape still n skipping d e s a b (inl p) (inl q) = (rw (p.1, q.1) tt, p.2 ∙ sym q.2)
alike_law shape still n skipping d e s a b (inl p) (inr q) = absurd (has_zero s q.0 q.1 q.2 p.0)
alike_law shape still n skipping d e s a b (inr p) (inl q) = absurd (has_zero s p.0 p.1 p.2 q.0)
alike_law shape still n skipping d e s a b (inr p) (inr q) =
    elim (zero_cut p.0 q.0 p.1 q.1 p.2.0 (sym p.2.1 ∙ q.2.1)) [
      | inl c ↦ answered_alike n shape still p.1 a b d e p.3
          (subst (λ (x : List ℕ). IsAnswered n (IsOwn shape) x b e) (sym c.1) q.3)
      | inr c ↦ absurd (has_zero q.0 p.0 c.0 (p.2.0, c.1) q.2.0)
    ]

pub damage_law : {T : Type 0} (shape : Shape T) → DamageStays shape
damage_law shape still n d e u x y v a b eu ex ey p q =
    let k = split_law shape n d u x v a eu ex p in
    let l = split_law shape n e u y v b eu ey q in
    let front = alike_law shape still n (holding []) (holding []) (holding []) u k.0 l.0 k.4 l.4 in
    let after = alike_law shape still n (holding []) d e v k.2 l.2 k.6 l.6 in
    (k.0, l.0, k.1, l.1, k.2, l.2, k.3, l.3, front.0, after.0, k.5, l.5, after.1)
