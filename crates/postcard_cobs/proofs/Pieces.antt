-- Pieces: bytes of data in a row, zeros among them, that are too few to make the open group full.
use Rattle.std.proofs.Common.{◌≡◌, ℕ, ◌+◌, ◌<◌, ◌≤◌, List, [], ◌∷◌, ◌++◌, length, refl, subst, append_assoc, append-nil, length-append, length-set, arith, eqb, Bool, true, false, set}
use Rattle.std.proofs.lemmas.Bool.{ne_eqb, eqb-true, eqb-false}
use Rattle.postcard_cobs.specs.Groups.{IsOpen, Standing}
use Rattle.postcard_cobs.specs.Pushing.{after, answer}
use Rattle.postcard_cobs.specs.declared.encode.PushResult.TheVariants.{AddSingle, ModifyFromStartAndSkip}
use Rattle.postcard_cobs.proofs.Encoding.{push_zero, push_one}

-- If a group isn't full with one more byte, the encoder moves on by one place.
pub after_short : (at : Standing) (b : ℕ) → at.code < 254 → ((after at b).code_at + (after at b).code ≡ at.code_at + at.code + 1) × ((after at b).code ≤ at.code + 1)
after_short at b s = by_zero (eqb b 0) refl where
  by_zero : (t : Bool) → eqb b 0 ≡ t → ((after at b).code_at + (after at b).code ≡ at.code_at + at.code + 1) × ((after at b).code ≤ at.code + 1)
  by_zero true e = rw e (omega arith, omega arith)
  by_zero false e =
      let f : eqb at.code 254 ≡ false = ne_eqb at.code 254 (λ e. omega (arith, s)) in
      rw (e, f) (omega arith, omega arith)

-- Only for a zero is a code set and nothing else written but a zero.
pub answer_zero : (at : Standing) (b : ℕ) (p : ℕ × ℕ) → answer at b ≡ ModifyFromStartAndSkip p → b ≡ 0
answer_zero at b p is = by_zero (eqb b 0) (eqb at.code 254) refl refl where
  by_zero : (t u : Bool) → eqb b 0 ≡ t → eqb at.code 254 ≡ u → b ≡ 0
  by_zero true u e f = eqb-true b 0 e
  by_zero false true e f = let r = rw (e, f) at is in absurd (cc)
  by_zero false false e f = let r = rw (e, f) at is in absurd (cc)

-- If a group isn't full with one more byte, a byte for which no code is set is written alone.
pub answer_other : (at : Standing) (b : ℕ) → at.code < 254 → ((p : ℕ × ℕ) → answer at b ≡ ModifyFromStartAndSkip p → ⊥) → answer at b ≡ AddSingle b
answer_other at b s none = by_zero (eqb b 0) refl where
  by_zero : (t : Bool) → eqb b 0 ≡ t → answer at b ≡ AddSingle b
  by_zero true e = absurd (none (at.code_at, at.code) (rw e refl))
  by_zero false e =
      let f : eqb at.code 254 ≡ false = ne_eqb at.code 254 (λ e. omega (arith, s)) in
      rw (e, f) refl

-- An open frame of the data d that has n bytes more than L.
pub record Longer (L d : List ℕ) (n : ℕ) : Type 0 where
  pub frame : List ℕ
  pub at : Standing
  pub stands : IsOpen frame at d
  pub longer : length frame ≡ length L + n

-- A piece makes an open frame longer by the piece's length.
pub piece_open : (x L d : List ℕ) (at : Standing) → length x + at.code < 255 → IsOpen L at d → Longer L (d ++ x) (length x)
piece_open [] L d at s h = record { frame = L; at = at; stands = rw (append-nil d) h; longer = omega arith }
piece_open (b ∷ x) L d at s h = by_zero (eqb b 0) refl (λ F to few one. piece_open x F (d ++ b ∷ []) to few one) where
  longer_by_one : (F : List ℕ) → length F ≡ length L + 1 → Longer F ((d ++ b ∷ []) ++ x) (length x) → Longer L (d ++ b ∷ x) (length (b ∷ x))
  longer_by_one F n r = record {
    frame = r.frame;
    at = r.at;
    stands = subst (λ z. IsOpen r.frame r.at z) (append_assoc d (b ∷ []) x) r.stands;
    longer = omega (arith, n, r.longer);
  }

  by_zero : (t : Bool) → eqb b 0 ≡ t → ((F : List ℕ) (to : Standing) → length x + to.code < 255 → IsOpen F to (d ++ b ∷ []) → Longer F ((d ++ b ∷ []) ++ x) (length x))
      → Longer L (d ++ b ∷ x) (length (b ∷ x))
  by_zero true e more =
      let c = h.code_is in
      let F = set L at.code_at at.code ++ 0 ∷ [] in
      let n : length F ≡ length L + 1 = omega (arith, length-append (set L at.code_at at.code) (0 ∷ []), length-set L at.code_at at.code) in
      let one : IsOpen F (record { code_at = at.code_at + at.code; code = 1 }) (d ++ b ∷ []) = rw (eqb-true b 0 e) (push_zero L d at h) in
      longer_by_one F n (more F _ (omega arith) one)
  by_zero false e more =
      let pos : 0 < b = omega (arith, eqb-false b 0 e) in
      longer_by_one (L ++ b ∷ []) (length-append L (b ∷ [])) (more _ _ (omega arith) (push_one L d at b pos (omega arith) h))
