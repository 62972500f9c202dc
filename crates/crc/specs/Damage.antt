-- How a message, checked or not, may be damaged, as the polynomial of the bits that were changed.
use Rattle.std.specs.Prelude.{◌≡◌, ℕ, zero, suc, ◌+◌, ◌*◌, ◌/◌, ◌%◌, ◌^◌, ◌<◌, bit_xor}
use Rattle.crc.specs.Polynomial.{Congruent}
use Rattle.crc.specs.Crc.{Parameters, generator}

-- Only bits within w in a row were changed.
pub record IsBurst (w changed : ℕ) : Type 0 where
  pub bits : ℕ
  pub place : ℕ
  pub is : changed ≡ bits * 2 ^ place
  pub short : bits < 2 ^ w

-- How many of the lowest n bits of a number are one.
abbrev pub ones : ℕ → ℕ → ℕ
ones zero n = 0
ones (suc k) n = n % 2 + ones k (n / 2)

-- An odd number of bits was changed, all within the lowest n.
pub record IsOddDamage (n changed : ℕ) : Type 0 where
  pub within : changed < 2 ^ n
  pub odd : ones n changed % 2 ≡ 1

-- x + 1 divides the generator.
abbrev pub HasParity : Parameters → Type 0
HasParity a = Congruent 3 (generator a) 0

-- Two bits were changed, `apart` places from one another.
pub record AreTwo (apart changed : ℕ) : Type 0 where
  pub place : ℕ
  pub is : changed ≡ bit_xor (2 ^ apart) 1 * 2 ^ place

-- The order of x modulo the generator is at least n: no power of x from x^1 to x^(n - 1) is
-- congruent to 1.
abbrev pub HasOrderFrom : ℕ → Parameters → Type 0
HasOrderFrom n a = (d : ℕ) → 0 < d → d < n → Congruent (generator a) (2 ^ d) 1 → ⊥
