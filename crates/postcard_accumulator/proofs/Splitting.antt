-- The answers of a stream are those of its parts, if the parts before the last end in a zero.
use Rattle.std.proofs.Common.{◌≡◌, ℕ, inl, inr, List, [], ◌∷◌, ◌++◌, length, refl, sym, ap, subst}
use Rattle.std.proofs.Common.{◌∙◌, append_assoc, arith, length-append}
use Rattle.std.specs.Prelude.{flat_map}
use Rattle.std.proofs.lemmas.List.{append-nil}
use native.Mathlib.Decide.{dec_le}
use Rattle.postcard_cobs.proofs.Made.{NoZero-right}
use Rattle.postcard_shape.specs.Shape.{Shape}
use Rattle.postcard_accumulator.specs.State.{State, holding, skipping}
use Rattle.postcard_accumulator.specs.Streams.{AreAnswersOf, AreZeroFree, ended, IsSplit}
use Rattle.postcard_accumulator.specs.Streams.{IsAnswered}
use Rattle.postcard_accumulator.specs.Values.{IsOwn}
use Rattle.postcard_accumulator.specs.Laws.{CutAtZero, Split, EndsInZero, NothingAfterZero}
use Rattle.postcard_accumulator.specs.declared.answers.Answer.{Answer}
use Rattle.postcard_accumulator.specs.declared.answers.Answer.TheVariants.{OverFull}
use Rattle.postcard_accumulator.proofs.Cutting.{zero_cut, ends_cut, first, AreZeroFree-left}
use Rattle.postcard_accumulator.proofs.Cutting.{AreZeroFree-right}

module _ {T : Type 0} (n : ℕ) (own : List ℕ → Answer T → Type 0) where
  AreAnswersOf-cut : (fs gs : List (List ℕ)) (a : List (Answer T))
      → AreAnswersOf n own (fs ++ gs) a →
      (b c : List (Answer T)) × (a ≡ b ++ c) × AreAnswersOf n own fs b × AreAnswersOf n own gs c
  AreAnswersOf-cut [] gs a p = ([], a, refl, tt, p)
  AreAnswersOf-cut (f ∷ fs) gs [] p = absurd p
  AreAnswersOf-cut (f ∷ fs) gs (x ∷ a) p =
      let r = AreAnswersOf-cut fs gs a p.1 in
      (x ∷ r.0, r.1, ap (λ (y : List (Answer T)). x ∷ y) r.2, (p.0, r.3), r.4)

  -- A stream that is whole frames has one answer for each, and nothing is held after it.
  whole : (s : List ℕ) (fs : List (List ℕ)) (ps : List (Answer T)) → s ≡ flat_map ended fs
      → AreZeroFree fs → AreAnswersOf n own fs ps → IsAnswered n own s ps (holding [])
  whole s fs ps is zf each = record {
    frames = fs;
    rest = [];
    split = record {
      is = is ∙ sym (append-nil (flat_map ended fs));
      frames_zero_free = zf;
      rest_zero_free = tt;
    };
    parts = ps;
    each = each;
    fits = λ l. (refl, refl);
    over = λ l. absurd (omega arith);
  }

  pub cut_answered : (u v : List ℕ) (a : List (Answer T)) (d : State) → EndsInZero u
      → IsAnswered n own (u ++ v) a d →
      (x y : List (Answer T)) × (a ≡ x ++ y) × IsAnswered n own u x (holding [])
      × IsAnswered n own v y d
  cut_answered u v a d ends p =
      let cut = ends_cut u v p.frames p.rest ends p.split.frames_zero_free p.split.rest_zero_free
      p.split.is in
      let zero_free : AreZeroFree (cut.0 ++ cut.1) =
      subst AreZeroFree cut.2 p.split.frames_zero_free in
      let each : AreAnswersOf n own (cut.0 ++ cut.1) p.parts =
      subst (λ (x : List (List ℕ)). AreAnswersOf n own x p.parts) cut.2 p.each in
      let parts = AreAnswersOf-cut cut.0 cut.1 p.parts each in
      let front = whole u cut.0 parts.0 cut.3 (AreZeroFree-left cut.0 cut.1 zero_free) parts.3 in
      let after : IsSplit v cut.1 p.rest =
      record {
        is = cut.4;
        frames_zero_free = AreZeroFree-right cut.0 cut.1 zero_free;
        rest_zero_free = p.split.rest_zero_free;
      } in
      elim (dec_le (length p.rest) n) [
        | yes l ↦
            let f = p.fits l in (
              parts.0,
              parts.1,
              f.0 ∙ parts.2,
              front,
              record {
                frames = cut.1;
                rest = p.rest;
                split = after;
                parts = parts.1;
                each =
                    parts.4;
                fits = λ m. (refl, f.1);
                over = λ m. absurd (omega (arith, l));
              },
            )
        | no l ↦
            let f = p.over (omega (arith, l)) in (
              parts.0,
              parts.1 ++ OverFull ∷ [],
              f.0 ∙ ap (λ (x : List (Answer T)). x ++ OverFull ∷ []) parts.2
                  ∙ append_assoc parts.0 parts.1 (OverFull ∷ []),
              front,
              record {
                frames = cut.1;
                rest = p.rest;
                split = after;
                parts = parts.1;
                each =
                    parts.4;
                fits = λ m. absurd (omega (arith, l));
                over = λ m. (refl, f.1);
              },
            )
      ]

  -- The empty stream has no frame, and nothing is held after it.
  pub none_held : (a : List (Answer T)) (d : State) → IsAnswered n own [] a d → d ≡ holding []
  none_held a d q = by_frames q.frames q.split where
    by_frames : (fs : List (List ℕ)) → IsSplit [] fs q.rest → d ≡ holding []
    by_frames [] s = let l = ap length s.is in (q.fits (omega arith)).1 ∙ ap holding (sym s.is)
    by_frames (f ∷ fs) s =
        let no = ap length (s.is ∙ first f fs q.rest) in
        let l = length-append f (0 ∷ (flat_map ended fs ++ q.rest)) in
        absurd (omega arith)

pub cut_law : {T : Type 0} (shape : Shape T) → CutAtZero shape
cut_law shape n (holding h) d w v a p =
    let e : h ++ (w ++ 0 ∷ v) ≡ (h ++ (w ++ 0 ∷ [])) ++ v =
    ap (λ (x : List ℕ). h ++ x) (sym (append_assoc w (0 ∷ []) v))
    ∙ sym (append_assoc h (w ++ 0 ∷ []) v) in
    cut_answered n (IsOwn shape) (h ++ (w ++ 0 ∷ [])) v a d (inr (h ++ w, sym (append_assoc h w (0 ∷ []))))
    (subst (λ (x : List ℕ). IsAnswered n (IsOwn shape) x a d) e p)
cut_law shape n skipping d w v a (inl p) = let no = NoZero-right w (0 ∷ v) p.0 in
    absurd (omega (arith, no.0))
cut_law shape n skipping d w v a (inr p) =
    elim (zero_cut p.0 w p.1 v p.2.0 (sym p.2.1)) [
      | inl c ↦ (
        [],
        a,
        refl,
        inr (
          p.0,
          [],
          (p.2.0, ap (λ (x : List ℕ). x ++ 0 ∷ []) c.0),
          whole n (IsOwn shape) [] [] [] refl tt tt,
        ),
        subst
            (λ (x : List ℕ). IsAnswered n (IsOwn shape) x a d) c.1 p.3,
      )
      | inr c ↦
          let r = cut_answered n (IsOwn shape) (c.0 ++ 0 ∷ []) v a d (inr (c.0, refl))
          (subst (λ (x : List ℕ). IsAnswered n (IsOwn shape) x a d)
          (c.2 ∙ sym (append_assoc c.0 (0 ∷ []) v)) p.3) in (
            r.0,
            r.1,
            r.2,
            inr (
              p.0,
              c.0
                  ++ 0 ∷ [],
              (
                p.2.0,
                ap (λ (x : List ℕ). x ++ 0 ∷ []) c.1
                    ∙ append_assoc p.0 (0 ∷ c.0) (0 ∷ []),
              ),
              r.3,
            ),
            r.4,
          )
    ]

pub split_law : {T : Type 0} (shape : Shape T) → Split shape
split_law {T = T} shape n d u x v a eu ex p =
    let one = cut_answered n (IsOwn shape) u (x ++ v) a d eu p in
    let two = cut_answered n (IsOwn shape) x v one.1 d ex one.4 in (
      one.0,
      two.0,
      two.1,
      one.2
          ∙ ap (λ (y : List (Answer T)). one.0 ++ y) two.2,
      one.3,
      two.3,
      two.4,
    )

pub zero_law : {T : Type 0} (shape : Shape T) → NothingAfterZero shape
zero_law shape n c d w a p = let r = cut_law shape n c d w [] a p in none_held n (IsOwn shape) r.1 d r.4
