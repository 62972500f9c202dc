-- The digits of a number: how many there are, and that only the number 0 has a zero among them.
use Rattle.std.proofs.Common.{◌≡◌, ℕ, suc, zero, ◌<◌, ◌/◌, [], ◌∷◌, length, inl, inr, refl, arith}
use Rattle.std.proofs.lemmas.Bool.{cases_lt}
use Rattle.postcard_wire.specs.Number.{digits, digits_within}
use Rattle.postcard_wire.proofs.Numbers.{one_digit, more_digits}
use Rattle.postcard_cobs.specs.Groups.{NoZero}

-- A number has a digit, however few it may have.
some_digits : (more n : ℕ) → 0 < length (digits_within more n)
some_digits zero n = omega arith
some_digits (suc more) n =
    elim (cases_lt n 128) [
      | inl small ↦ rw (one_digit (suc more) n small) (omega arith)
      | inr large ↦ rw (more_digits more n large) (omega arith)
    ]

-- A number has a digit.
pub digits_some : (n : ℕ) → 0 < length (digits n)
unfolding digits
digits_some n = some_digits 18 n

-- No digit of a number above 0 is zero, however many it may have.
free_digits : (more n : ℕ) → 0 < n → NoZero (digits_within more n)
free_digits zero n some = (some, tt)
free_digits (suc more) n some =
    elim (cases_lt n 128) [
      | inl small ↦ rw (one_digit (suc more) n small) (some, tt)
      | inr large ↦ rw (more_digits more n large) (omega arith, free_digits more (n / 128) (omega arith))
    ]

-- No digit of a number above 0 is zero: all but the last are at least 128.
pub digits_free : (n : ℕ) → 0 < n → NoZero (digits n)
unfolding digits
digits_free n some = free_digits 18 n some

-- The only digit of 0 is 0.
pub digits_none : digits 0 ≡ 0 ∷ []
unfolding digits
digits_none = refl
