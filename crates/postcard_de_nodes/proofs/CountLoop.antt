-- Reading a count: its digits are added in 64 bits.
use Rattle.std.proofs.Common.{◌≡◌, ℕ, ◌+◌, ◌*◌, ◌%◌, ◌<◌, ◌≤◌, ◌^◌, ◌⊎◌, inl, inr, List, [], ◌∷◌, ◌++◌}
use Rattle.std.proofs.Common.{length, refl, sym, ap, ◌∙◌, subst, arith, length-append}
use Rattle.std.proofs.lemmas.Bool.{cases_lt}
use Rattle.std.proofs.Math.Nat.{mod-eq_of_lt}
use Rattle.postcard_wire.specs.Tree.{IsWidth}
use Rattle.postcard_wire.specs.declared.digits.Digits.{Digits}
use Rattle.postcard_wire.specs.Digits.{HasRead, Within as Fits}
use Rattle.postcard_wire.specs.Number.{number, SpellsNum, SpellsNone}
use Rattle.postcard_wire.proofs.Pushed.{number_more, GoesOn-more, value_fits, last_byte}
use Rattle.postcard_wire.proofs.Pushed.{next_fewer, too_great}

width : IsWidth 64
width = inr (inr (inl refl))

-- The state after `place` digits of this value.
abbrev pub state : ℕ → ℕ → Digits
state value place = record { value = value; count = place }

-- Before the first byte there is no digit.
pub none : HasRead 64 [] (state 0 0)
none = record { high = tt; count = refl; value = refl; fewer = omega arith }

-- A first byte below 128 is a number by itself.
pub one_digit : (b : ℕ) → b < 128 → SpellsNum 64 b (b ∷ [])
one_digit b low = record { digits = low; count = omega arith; value = omega (arith, low) }

-- The digit of a byte fits in 64 bits, except at place 9 that of a byte above 1.
pub fits_64 : (i b : ℕ) → i < 10 → ((i ≡ 9) × (b ≤ 1)) ⊎ (i ≡ 9 → ⊥) → Fits 64 i b
fits_64 i b few (inl h) = rw h.0 (inr (omega (arith, h.1)))
fits_64 i b few (inr other) = elim (cases_lt i 9) [
  | inl h ↦ inl (omega (arith, h))
  | inr h ↦ absurd (other (omega (arith, h, few)))
]

tenth_fits : (b : ℕ) → 1 < b → Fits 64 9 b → ⊥
tenth_fits b more (inl h) = omega (arith, h)
tenth_fits b more (inr h) = omega (arith, h, more)

-- With a tenth byte above 1, the bytes spell no number of 64 bits.
pub tenth_bad : {p : List ℕ} {v i b : ℕ} → HasRead 64 p (state v i) → i ≡ 9 → 1 < b →
    SpellsNone 64 (p ++ b ∷ [])
tenth_bad {p} {b = b} so nine more = too_great 64 p b so.high so.fewer
    (λ f. tenth_fits b more (subst (λ (k : ℕ). Fits 64 k b) (sym so.count ∙ nine) f))

module _ {p : List ℕ} {v i d : ℕ} (b : ℕ) (so : HasRead 64 p (state v i)) (is : d ≡ b % 128)
    (fits : Fits 64 i b) where
  at_place : Fits 64 (length p) b
  at_place = subst (λ (k : ℕ). Fits 64 k b) so.count fits

  -- The sum that the code computes is the value.
  sum : v + d * 2 ^ (7 * i) % 2 ^ 64 ≡ number p + b % 128 * 2 ^ (7 * length p)
  sum =
      let low = value_fits 64 p b so.fewer at_place in
      rw (so.count, so.value, is) (ap (λ (n : ℕ). number p + n) (mod-eq_of_lt (omega (arith, low))))

  -- It fits in 64 bits.
  pub sum_below : v + d * 2 ^ (7 * i) % 2 ^ 64 < 2 ^ 64
  sum_below = subst (λ (n : ℕ). n < 2 ^ 64) (sym sum) (value_fits 64 p b so.fewer at_place)

  -- A byte below 128 ends the number.
  pub last_added : b < 128 → SpellsNum 64 (v + d * 2 ^ (7 * i) % 2 ^ 64) (p ++ b ∷ [])
  last_added low = subst (λ (n : ℕ). SpellsNum 64 n (p ++ b ∷ [])) (sym sum)
      (last_byte 64 p b so.high so.fewer at_place low)

  -- After another byte, the number goes on.
  pub added : 128 ≤ b → b < 256 →
      HasRead 64 (p ++ b ∷ []) (state (v + d * 2 ^ (7 * i) % 2 ^ 64) (i + 1))
  added high small = record {
    high = GoesOn-more p b so.high high small;
    count = omega (arith, so.count, length-append p (b ∷ []));
    value = sum ∙ sym (number_more p b);
    fewer = next_fewer 64 p b width so.fewer at_place high;
  }
