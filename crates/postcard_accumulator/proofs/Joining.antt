-- The answers of calls in a row, one list after the other, are answers of the joined stream.
use Rattle.std.proofs.Common.{◌≡◌, ℕ, ◌<◌, inl, inr, List, [], ◌∷◌, ◌++◌, length, refl, sym, ap}
use Rattle.std.proofs.Common.{subst, ◌∙◌, append_assoc, arith, length-append}
use Rattle.std.specs.Prelude.{flat_map}
use Rattle.std.proofs.lemmas.Grind.{flat_map-append}
use Rattle.std.proofs.lemmas.List.{append-nil}
use native.Mathlib.Decide.{dec_le}
use Rattle.postcard_cobs.proofs.Made.{NoZero-append}
use Rattle.postcard_accumulator.specs.State.{State, holding, skipping}
use Rattle.postcard_accumulator.specs.Streams.{IsSplit, ended, IsAnswerOf, AreAnswersOf, IsAnswered}
use Rattle.postcard_accumulator.specs.Streams.{Answers}
use Rattle.postcard_accumulator.specs.declared.answers.Answer.{Answer}
use Rattle.postcard_accumulator.specs.declared.answers.Answer.TheVariants.{OverFull}
use Rattle.postcard_accumulator.proofs.Cutting.{AreZeroFree-append}

module _ {T : Type 0} (n : ℕ) (own : List ℕ → Answer T → Type 0) where
  AreAnswersOf-append : (fs gs : List (List ℕ)) (a b : List (Answer T)) → AreAnswersOf n own fs a
      → AreAnswersOf n own gs b → AreAnswersOf n own (fs ++ gs) (a ++ b)
  AreAnswersOf-append [] gs [] b p q = q
  AreAnswersOf-append [] gs (x ∷ a) b p q = absurd p
  AreAnswersOf-append (f ∷ fs) gs [] b p q = absurd p
  AreAnswersOf-append (f ∷ fs) gs (x ∷ a) b p q = (p.0, AreAnswersOf-append fs gs a b p.1 q)

  -- Frames, and a rest that is held and continued by y: the answers are those of the frames, and
  -- then those of the rest and y.
  join_held : (s y : List ℕ) (fs : List (List ℕ)) (r : List ℕ) (ps b : List (Answer T)) (e : State)
      → IsSplit s fs r → AreAnswersOf n own fs ps →
      IsAnswered n own (r ++ y) b e → IsAnswered n own (s ++ y) (ps ++ b) e
  join_held s y fs r ps b e p each q = record {
    frames = fs ++ q.frames;
    rest = q.rest;
    split = record {
      is = ap (λ (x : List ℕ). x ++ y) p.is ∙ append_assoc (flat_map ended fs) r y
          ∙ ap (λ (x : List ℕ). flat_map ended fs ++ x) q.split.is
          ∙ sym (append_assoc (flat_map ended fs) (flat_map ended q.frames) q.rest)
          ∙ ap (λ (x : List ℕ). x ++ q.rest) (sym (flat_map-append ended fs q.frames));
      frames_zero_free = AreZeroFree-append fs q.frames p.frames_zero_free q.split.frames_zero_free;
      rest_zero_free = q.split.rest_zero_free;
    };
    parts = ps ++ q.parts;
    each = AreAnswersOf-append fs q.frames ps q.parts each q.each;
    fits = λ l. let f = q.fits l in (ap (λ (x : List (Answer T)). ps ++ x) f.0, f.1);
    over = λ l. let f = q.over l in (
      ap (λ (x : List (Answer T)). ps ++ x) f.0
          ∙ sym (append_assoc ps q.parts (OverFull ∷ [])),
      f.1,
    );
  }

  -- Frames, and a rest that has no room and is skipped: the answers are those of the frames, then
  -- `OverFull`, and then those of y while skipping.
  join_over : (s y : List ℕ) (fs : List (List ℕ)) (r : List ℕ) (ps b : List (Answer T)) (e : State)
      → IsSplit s fs r → AreAnswersOf n own fs ps → n < length r →
      Answers n own skipping y b e → IsAnswered n own (s ++ y) ((ps ++ OverFull ∷ []) ++ b) e
  join_over s y fs r ps b e p each long (inl q) =
      let l = length-append r y in
      record {
        frames = fs;
        rest = r ++ y;
        split = record {
          is = ap (λ (x : List ℕ). x ++ y) p.is
              ∙ append_assoc (flat_map ended fs) r y;
          frames_zero_free = p.frames_zero_free;
          rest_zero_free = NoZero-append r y p.rest_zero_free q.0;
        };
        parts = ps;
        each = each;
        fits = λ few. absurd (omega arith);
        over = λ many. (
          ap (λ (x : List (Answer T)). (ps ++ OverFull ∷ []) ++ x) q.1
              ∙ append-nil (ps ++ OverFull ∷ []),
          q.2,
        );
      }
  join_over s y fs r ps b e p each long (inr q) =
      let one : IsAnswerOf n own (r ++ q.0) OverFull =
      record {
        its_own = λ few. absurd (omega (arith, length-append r q.0));
        over_full =
            λ many. refl;
      } in
      let front : IsSplit (s ++ (q.0 ++ 0 ∷ [])) (fs ++ (r ++ q.0) ∷ []) [] = record {
        is = ap (λ (x : List ℕ). x ++ (q.0 ++ 0 ∷ [])) p.is
            ∙ append_assoc (flat_map ended fs) r (q.0 ++ 0 ∷ [])
            ∙ ap (λ (x : List ℕ). flat_map ended fs ++ x)
            (sym (append_assoc r q.0 (0 ∷ [])) ∙ sym (append-nil (ended (r ++ q.0))))
            ∙ sym (flat_map-append ended fs ((r ++ q.0) ∷ []))
            ∙ sym (append-nil (flat_map ended (fs ++ (r ++ q.0) ∷ [])));
        frames_zero_free = AreZeroFree-append fs ((r ++ q.0) ∷ []) p.frames_zero_free
            (NoZero-append r q.0 p.rest_zero_free q.2.0, tt);
        rest_zero_free = tt;
      } in
      let all : (s ++ (q.0 ++ 0 ∷ [])) ++ q.1 ≡ s ++ y = append_assoc s (q.0 ++ 0 ∷ []) q.1
      ∙ ap (λ (x : List ℕ). s ++ x) (append_assoc q.0 (0 ∷ []) q.1 ∙ sym q.2.1) in
      rw all at (join_held (s ++ (q.0 ++ 0 ∷ [])) q.1 (fs ++ (r ++ q.0) ∷ []) []
      (ps ++ OverFull ∷ []) b e front
      (AreAnswersOf-append fs ((r ++ q.0) ∷ []) ps (OverFull ∷ []) each (one, tt)) q.3)

  join_holding : (s y : List ℕ) (a b : List (Answer T)) (d e : State) → IsAnswered n own s a d
      → Answers n own d y b e → IsAnswered n own (s ++ y) (a ++ b) e
  join_holding s y a b d e p q = elim (dec_le (length p.rest) n) [
    | yes l ↦
        let f = p.fits l in
        let q2 : Answers n own (holding p.rest) y b e =
        subst (λ (c : State). Answers n own c y b e) f.1 q in
        rw f.0 (join_held s y p.frames p.rest p.parts b e p.split p.each q2)
    | no l ↦
        let long : n < length p.rest = omega (arith, l) in
        let f = p.over long in
        let q2 : Answers n own skipping y b e =
        subst (λ (c : State). Answers n own c y b e) f.1 q in
        rw f.0 (join_over s y p.frames p.rest p.parts b e p.split p.each long q2)
  ]

  pub joined_law : (c d e : State) (x y : List ℕ) (a b : List (Answer T)) → Answers n own c x a d
      → Answers n own d y b e → Answers n own c (x ++ y) (a ++ b) e
  joined_law (holding h) d e x y a b p q =
      rw (← append_assoc h x y) (join_holding (h ++ x) y a b d e p q)
  joined_law skipping d e x y a b (inl p) q =
      go (subst (λ (c : State). Answers n own c y b e) p.2 q) where
        go : Answers n own skipping y b e → Answers n own skipping (x ++ y) (a ++ b) e
        go (inl r) =
            inl (NoZero-append x y p.0 r.0, ap (λ (z : List (Answer T)). z ++ b) p.1 ∙ r.1, r.2)
        go (inr r) = inr (
          x ++ r.0,
          r.1,
          (
            NoZero-append x r.0 p.0 r.2.0,
            ap (λ (z : List ℕ). x ++ z) r.2.1
                ∙ sym (append_assoc x r.0 (0 ∷ r.1)),
          ),
          rw p.1 r.3,
        )
  joined_law skipping d e x y a b (inr p) q =
      inr (
        p.0,
        p.1 ++ y,
        (p.2.0, ap (λ (z : List ℕ). z ++ y) p.2.1 ∙ append_assoc p.0 (0 ∷ p.1) y),
        join_holding p.1 y a b d e p.3 q,
      )
