-- The number of bytes that the count of a list or the index of a variant takes.
use Rattle.std.proofs.Common.{◌≡◌, ℕ, zero, suc, ◌/◌, ◌<◌, ◌≤◌, inl, inr, length, refl, arith}
use Rattle.std.proofs.lemmas.Bool.{cases_lt}
use Rattle.postcard_wire.specs.Number.{digits, digits_within}
use Rattle.postcard_max.specs.Sizes.{varint_len}
use Rattle.postcard_wire.proofs.Numbers.{one_digit, more_digits}

-- A number has at least one digit.
some_digits : (k n : ℕ) → 1 ≤ length (digits_within k n)
some_digits zero n = omega arith
some_digits (suc k) n = elim (cases_lt n 128) [
  | inl small ↦ rw (one_digit (suc k) n small) (omega arith)
  | inr large ↦ rw (more_digits k n large) (omega arith)
]

more_for_more : (k a b : ℕ) → a ≤ b → length (digits_within k a) ≤ length (digits_within k b)
more_for_more zero a b h = omega arith
more_for_more (suc k) a b h = elim (cases_lt a 128) [
  | inl small ↦ rw (one_digit (suc k) a small) (some_digits (suc k) b)
  | inr large ↦
      let q : 128 ≤ b = omega arith in
      let d : a / 128 ≤ b / 128 = omega arith in
      rw (more_digits k a large, more_digits k b q) (omega (arith, more_for_more k (a / 128) (b / 128) d))
]

-- The number of the shortest digits of a number is its `varint_len`.
pub count_len : (n : ℕ) → length (digits n) ≡ varint_len n
unfolding digits
count_len n = refl

-- A greater number has no fewer digits.
pub longer_counts : (a b : ℕ) → a ≤ b → length (digits a) ≤ varint_len b
unfolding digits
longer_counts a b h = more_for_more 18 a b h

-- A number below 128 has one digit.
pub one_count : (i : ℕ) → i < 128 → length (digits i) ≡ 1
unfolding digits
one_count i h = rw (one_digit 18 i h)

-- Every number has at least one digit.
pub some_count : (n : ℕ) → 1 ≤ varint_len n
some_count n = some_digits 18 n
