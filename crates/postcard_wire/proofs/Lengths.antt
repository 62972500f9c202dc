-- The number of digits of a number, from the place of its highest set bit.
use Rattle.std.proofs.Common.{◌≡◌, ℕ, zero, suc, ◌+◌, ◌-◌, ◌*◌, ◌/◌, ◌<◌, ◌≤◌, ◌^◌, inl, inr, length, bit_or, refl, ap, ◌∙◌, arith}
use Rattle.std.proofs.Math.Nat.{one-le-pow, pow-succ', pow-le-pow_right}
use Rattle.std.proofs.lemmas.Bool.{cases_lt}
use Rattle.std.proofs.lemmas.Nat.{le_or_l, le_or_r, leading_top, or_lt, pow-add}
use lib.Count.{count_leading_zeros}
use Rattle.postcard_wire.specs.Number.{digits_within, digits}
use Rattle.postcard_wire.proofs.Numbers.{one_digit, more_digits, length-digits_within}

-- A number of at least 128 ^ j has more than j digits.
more_than : (k j n : ℕ) → j ≤ k → (0 < j → 128 ^ j ≤ n) → suc j ≤ length (digits_within k n)
more_than zero zero n i h = omega arith
more_than zero (suc j) n i h = absurd (omega arith)
more_than (suc k) zero n i h =
    elim (cases_lt n 128) [
      | inl small ↦ rw (one_digit (suc k) n small) (omega arith)
      | inr large ↦ rw (more_digits k n large) (omega arith)
    ]
more_than (suc k) (suc j) n i h =
    let p : 128 ^ suc j ≡ 128 * 128 ^ j = pow-succ' 128 j in
    let q : 1 ≤ 128 ^ j = one-le-pow j 128 (omega arith) in
    let r : 128 ^ suc j ≤ n = h (omega arith) in
    rw (more_digits k n (omega arith)) (omega (arith, more_than k j (n / 128) (omega arith) (λ l. omega arith)))

-- The power of 128 as one of 2.
power : (j : ℕ) → 2 ^ (7 * j) ≡ 128 ^ j
power zero = refl
power (suc j) =
    let e : 7 * suc j ≡ 7 + 7 * j = omega arith in
    let p : 2 ^ (7 + 7 * j) ≡ 2 ^ 7 * 2 ^ (7 * j) = pow-add 2 7 (7 * j) in
    let q : 128 ^ suc j ≡ 128 * 128 ^ j = pow-succ' 128 j in
    ap (λ (z : ℕ). 2 ^ z) e ∙ (p ∙ omega (arith, power j))

-- A power of 2 is at least each lower one.
higher : (i j : ℕ) → i ≤ j → 2 ^ i ≤ 2 ^ j
higher i j h = pow-le-pow_right {n = 2} (omega arith) h

-- Setting the lowest bit of n doesn't take it past 128 ^ j for a j above 0, since that power is even.
at_least : (j n : ℕ) → 128 ^ j ≤ bit_or n 1 → 0 < j → 128 ^ j ≤ n
at_least j n l p =
    elim (cases_lt n (128 ^ j)) [
      | inl small ↦
          let q : 2 ^ 1 ≤ 2 ^ (7 * j) = higher 1 (7 * j) (omega arith) in
          absurd (omega (arith, power j, or_lt (7 * j) n 1 (omega (arith, power j)) (omega arith)))
      | inr large ↦ large
    ]

-- If the highest bit of n or 1 is at place i, n has as many digits as i has sevens, and one more.
len_at : (i n : ℕ) → i < 64 → 2 ^ i ≤ bit_or n 1 → bit_or n 1 < 2 ^ suc i → length (digits n) ≡ suc (i / 7)
unfolding digits
len_at i n b l h =
    let up = higher (suc i) (7 * suc (i / 7)) (omega arith) in
    let down = higher (7 * (i / 7)) i (omega arith) in
    let most = length-digits_within 18 (i / 7) n (omega (arith, le_or_l n 1, power (suc (i / 7)))) in
    let least = more_than 18 (i / 7) n (omega arith) (at_least (i / 7) n (omega (arith, power (i / 7)))) in
    omega arith

-- One bit of n or 1 is set.
pub one_set : (n : ℕ) → n < 2 ^ 64 → count_leading_zeros 64 (bit_or n 1) ≤ 63
one_set n h = omega (arith, (leading_top 64 (bit_or n 1) (omega (arith, le_or_r n 1)) (or_lt 64 n 1 h (omega arith))).1)

-- The number of digits by the count of the zero bits above those of n or 1.
pub len_is : (n : ℕ) → n < 2 ^ 64 → ((63 - count_leading_zeros 64 (bit_or n 1)) * 9 + 73) / 64 ≡ length (digits n)
len_is n h =
    let t = leading_top 64 (bit_or n 1) (omega (arith, le_or_r n 1)) (or_lt 64 n 1 h (omega arith)) in
    omega (arith, t.1, len_at t.0 n (omega (arith, t.1)) t.2 t.3)
