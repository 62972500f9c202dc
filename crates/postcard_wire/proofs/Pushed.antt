-- One byte more of a number that goes on: its value, whether it fits the width, and whether more
-- bytes may follow.
use Rattle.std.proofs.Common.{◌≡◌, ℕ, zero, suc, ◌+◌, ◌-◌, ◌*◌, ◌/◌, ◌%◌, ◌<◌, ◌≤◌, ◌^◌, ◌⊎◌, inl, inr, List, [], ◌∷◌, ◌++◌, length, refl, sym, ap, ◌∙◌, subst, arith, length-append}
use Rattle.std.proofs.lemmas.Nat.{pow-add, pow_pos}
use Rattle.std.proofs.Math.Nat.{pow-succ', pow-le-pow_right, mul-le-mul_right, div-lt_iff_lt-mul, mod-eq_of_lt, div-eq_of_lt}
use Rattle.std.proofs.lemmas.Bool.{cases_lt}
use Rattle.postcard_wire.specs.Number.{max_digits, number, AreDigits, GoesOn, SpellsNum, SpellsNone}
use Rattle.postcard_wire.specs.Digits.{Within, HasRead}
use Rattle.postcard_wire.specs.Tree.{IsWidth}
use Rattle.postcard_wire.specs.declared.digits.Digits.{Digits}

-- One place more is seven bits more.
seven_more : (l : ℕ) → 2 ^ (7 * suc l) ≡ 128 * 2 ^ (7 * l)
seven_more l =
    let e : 7 * suc l ≡ 7 * l + 7 = omega arith in
    ap (λ (k : ℕ). 2 ^ k) e ∙ (pow-add 2 (7 * l) 7 ∙ omega arith)

-- The value of the digits read so far is below the power of two of the next place.
number_below : (p : List ℕ) → number p < 2 ^ (7 * length p)
number_below [] = omega arith
number_below (b ∷ p) = let e = seven_more (length p) in omega (arith, number_below p)

-- One byte more counts by its place, in bits.
pub number_more : (p : List ℕ) (b : ℕ) → number (p ++ b ∷ []) ≡ number p + b % 128 * 2 ^ (7 * length p)
number_more [] b = omega arith
number_more (a ∷ p) b =
    let e = seven_more (length p) in
    rw e (omega (arith, number_more p b))

-- A number that goes on still does after a byte of at least 128.
pub GoesOn-more : (p : List ℕ) (b : ℕ) → GoesOn p → 128 ≤ b → b < 256 → GoesOn (p ++ b ∷ [])
GoesOn-more [] b g h i = (h, i, tt)
GoesOn-more (a ∷ p) b g h i = (g.0, g.1, GoesOn-more p b g.2 h i)

-- A byte below 128 ends a number that goes on.
AreDigits-last : (p : List ℕ) (b : ℕ) → GoesOn p → b < 128 → AreDigits (p ++ b ∷ [])
AreDigits-last [] b g h = h
AreDigits-last (a ∷ []) b g h = (g.0, g.1, h)
AreDigits-last (a ∷ c ∷ p) b g h = (g.0, g.1, AreDigits-last (c ∷ p) b g.2 h)

-- The last digit is below 128.
last_digit : (p : List ℕ) (b : ℕ) → AreDigits (p ++ b ∷ []) → b < 128
last_digit [] b d = d
last_digit (a ∷ []) b d = d.2
last_digit (a ∷ c ∷ p) b d = last_digit (c ∷ p) b d.2

-- A number without bits from bit k on is below 2 ^ k.
divided : (b k : ℕ) → b / 2 ^ k ≡ 0 → b < 2 ^ k
divided b k e = let h = (div-lt_iff_lt-mul {k = 2 ^ k} {x = b} {y = 1} (pow_pos k)).0 (omega arith) in omega arith

-- A value below the power of its place stays within the width with a digit that fits in the width.
sum_fits : (w i v b : ℕ) → v < 2 ^ (7 * i) → 7 * i ≤ w → Within w i b → v + b % 128 * 2 ^ (7 * i) < 2 ^ w
sum_fits w i v b h k (inl f) =
    let e : 2 ^ (7 * i + 7) ≡ 2 ^ (7 * i) * 2 ^ 7 = pow-add 2 (7 * i) 7 in
    let m : 2 ^ (7 * i + 7) ≤ 2 ^ w = pow-le-pow_right (omega arith) f in
    let q : b % 128 ≤ 127 = omega arith in
    omega (arith, mul-le-mul_right (2 ^ (7 * i)) q)
sum_fits w i v b h k (inr f) =
    let d = divided b (w - 7 * i) f in
    let s : 7 * i + (w - 7 * i) ≡ w = omega arith in
    let e : 2 ^ w ≡ 2 ^ (7 * i) * 2 ^ (w - 7 * i) = ap (λ (n : ℕ). 2 ^ n) (sym s) ∙ pow-add 2 (7 * i) (w - 7 * i) in
    let q : b % 128 + 1 ≤ 2 ^ (w - 7 * i) = omega arith in
    omega (arith, mul-le-mul_right (2 ^ (7 * i)) q)

-- A place that the width allows begins within the width.
pub bits_left : (w i : ℕ) → i < max_digits w → 7 * i ≤ w
bits_left w i h = omega arith

-- A width is at most 128.
few_bits : (w : ℕ) → IsWidth w → w ≤ 128
few_bits w (inl e) = omega arith
few_bits w (inr (inl e)) = omega arith
few_bits w (inr (inr (inl e))) = omega arith
few_bits w (inr (inr (inr e))) = omega arith

-- If a whole digit fits in the width, one more place is left.
one_more : (w i : ℕ) → IsWidth w → 7 * i + 7 ≤ w → suc i < max_digits w
one_more w i (inl e) h = rw e (omega arith)
one_more w i (inr (inl e)) h = rw e (omega arith)
one_more w i (inr (inr (inl e))) h = rw e (omega arith)
one_more w i (inr (inr (inr e))) h = rw e (omega arith)

-- If the digit of the next byte fits in the width, so does the value.
pub value_fits : (w : ℕ) (p : List ℕ) (b : ℕ) → length p < max_digits w → Within w (length p) b → number p + b % 128 * 2 ^ (7 * length p) < 2 ^ w
value_fits w p b h f = sum_fits w (length p) (number p) b (number_below p) (bits_left w (length p) h) f

-- The shift in the code loses no bit.
pub shifted : (w : ℕ) (p : List ℕ) (b : ℕ) → IsWidth w → length p < max_digits w → Within w (length p) b → (b % 128 * 2 ^ (7 * length p)) % 2 ^ 128 ≡ b % 128 * 2 ^ (7 * length p)
shifted w p b wide h f =
    let k = value_fits w p b h f in
    let m : 2 ^ w ≤ 2 ^ 128 = pow-le-pow_right (omega arith) (few_bits w wide) in
    mod-eq_of_lt (omega arith)

-- A byte below 128 whose digit fits in the width ends a spelling of the value.
pub last_byte : (w : ℕ) (p : List ℕ) (b : ℕ) → GoesOn p → length p < max_digits w → Within w (length p) b → b < 128
    → SpellsNum w (number p + b % 128 * 2 ^ (7 * length p)) (p ++ b ∷ [])
last_byte w p b g h f l =
    record { digits = AreDigits-last p b g l; count = omega (arith, length-append p (b ∷ [])); value = number_more p b }

-- After a byte of at least 128 whose digit fits in the width, another byte may follow.
pub next_fewer : (w : ℕ) (p : List ℕ) (b : ℕ) → IsWidth w → length p < max_digits w → Within w (length p) b → 128 ≤ b → length (p ++ b ∷ []) < max_digits w
next_fewer w p b wide h (inl f) b_high = omega (arith, one_more w (length p) wide f, length-append p (b ∷ []))
next_fewer w p b wide h (inr f) b_high = elim (cases_le (7 * length p + 7) w) [
  | inl k ↦ omega (arith, one_more w (length p) wide k, length-append p (b ∷ []))
  | inr k ↦
      let d = divided b (w - 7 * length p) f in
      let m : 2 ^ (w - 7 * length p) ≤ 2 ^ 6 = pow-le-pow_right (omega arith) {j = 6} (omega arith) in
      absurd (omega arith)
]
  where
    cases_le : (m n : ℕ) → (m ≤ n) ⊎ (n < m)
    cases_le m n = elim (cases_lt n m) [ inl h ↦ inr h | inr h ↦ inl h ]

-- With a byte whose digit doesn't fit in the width, the bytes have the full length and spell no
-- number of the width.
pub too_great : (w : ℕ) (p : List ℕ) (b : ℕ) → GoesOn p → length p < max_digits w → (Within w (length p) b → ⊥) → SpellsNone w (p ++ b ∷ [])
too_great w p b g h n =
    record { front = p; last = b; is = refl; high = g; full = full; none = λ m below s. refused m below s }
  where
    past : w < 7 * length p + 7
    past = elim (cases_lt w (7 * length p + 7)) [ inl h ↦ h | inr h ↦ absurd (n (inl h)) ]

    full : length (p ++ b ∷ []) ≡ max_digits w
    full = let l = past in omega (arith, length-append p (b ∷ []))

    reached : 2 ^ (w - 7 * length p) ≤ b
    reached = elim (cases_lt b (2 ^ (w - 7 * length p))) [ inl h ↦ absurd (n (inr (div-eq_of_lt h))) | inr h ↦ h ]

    refused : (m : ℕ) → m < 2 ^ w → SpellsNum w m (p ++ b ∷ []) → ⊥
    refused m below s =
        let low = last_digit p b s.digits in
        let small : b % 128 ≡ b = mod-eq_of_lt low in
        let e : number p + b % 128 * 2 ^ (7 * length p) ≡ m = sym (number_more p b) ∙ s.value in
        let r = reached in
        let t : 7 * length p + (w - 7 * length p) ≡ w = omega arith in
        let q : 2 ^ w ≡ 2 ^ (7 * length p) * 2 ^ (w - 7 * length p) = ap (λ (n : ℕ). 2 ^ n) (sym t) ∙ pow-add 2 (7 * length p) (w - 7 * length p) in
        let f : number p + b * 2 ^ (7 * length p) ≡ m = rw small at e in
        omega (arith, mul-le-mul_right (2 ^ (7 * length p)) r)

-- The sum that the code computes is the value, if it has read i bytes p of value v and d is the
-- next digit.
pub sum_is : (w i v d b : ℕ) (p : List ℕ) → IsWidth w → length p < max_digits w → i ≡ length p → v ≡ number p → d ≡ b % 128 → Within w i b
    → v + d * 2 ^ (7 * i) % 2 ^ 128 ≡ number p + b % 128 * 2 ^ (7 * length p)
sum_is w i v d b p wide h e f g in_width =
    rw (e, f, g) (ap (λ (n : ℕ). number p + n) (shifted w p b wide h (subst (λ (k : ℕ). Within w k b) e in_width)))

-- The sum that the code computes fits in the width.
pub sum_below : (w i v d b : ℕ) (p : List ℕ) → IsWidth w → length p < max_digits w → i ≡ length p → v ≡ number p → d ≡ b % 128 → Within w i b
    → v + d * 2 ^ (7 * i) % 2 ^ 128 < 2 ^ w
sum_below w i v d b p wide h e f g in_width =
    subst (λ (n : ℕ). n < 2 ^ w) (sym (sum_is w i v d b p wide h e f g in_width)) (value_fits w p b h (subst (λ (k : ℕ). Within w k b) e in_width))

-- The same of the state that the code keeps, with the digit's place given by the bytes read.
pub sum_read : (w d b : ℕ) (digits : Digits) (p : List ℕ) → IsWidth w → HasRead w p digits → d ≡ b % 128 → Within w digits.count b
    → (digits.value + d * 2 ^ (7 * digits.count) % 2 ^ 128 ≡ number p + b % 128 * 2 ^ (7 * length p)) × (digits.value + d * 2 ^ (7 * digits.count) % 2 ^ 128 < 2 ^ w) × Within w (length p) b
sum_read w d b digits p wide s g in_width = (
  sum_is w digits.count digits.value d b p wide s.fewer s.count s.value g in_width,
  sum_below w digits.count digits.value d b p wide s.fewer s.count s.value g in_width,
  subst (λ (k : ℕ). Within w k b) s.count in_width,
)

-- A number that fits in a width fits in 128 bits.
pub sum_in_range : (w n : ℕ) → IsWidth w → n < 2 ^ w → n < 2 ^ 128
sum_in_range w n wide h = let m : 2 ^ w ≤ 2 ^ 128 = pow-le-pow_right (omega arith) {j = 128} (few_bits w wide) in omega arith

-- The power of a place in base 128 is a power of two.
places : (l : ℕ) → 128 ^ l ≡ 2 ^ (7 * l)
places zero = refl
places (suc l) = pow-succ' 128 l ∙ (ap (λ (n : ℕ). 128 * n) (places l) ∙ sym (seven_more l))

-- One byte more counts by its place, in base 128.
pub by_place : (p : List ℕ) (b : ℕ) → number (p ++ b ∷ []) ≡ number p + b % 128 * 128 ^ length p
by_place p b = number_more p b ∙ ap (λ (n : ℕ). number p + b % 128 * n) (sym (places (length p)))
