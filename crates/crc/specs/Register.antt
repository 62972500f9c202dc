-- A register of n bits, and the polynomial in it.
use Rattle.std.specs.Prelude.{◌≡◌, ℕ, zero, suc, ◌+◌, ◌-◌, ◌*◌, ◌/◌, ◌%◌, ◌^◌, ◌<◌, ◌==◌, List, Bool, true, false, bit_xor, if◌then◌else◌, slice_index}
use Rattle.crc.specs.Polynomial.{Congruent}
use Rattle.crc.specs.Crc.{Parameters, in_order, message, generator, dividend}

-- How far the register's polynomial is above the remainder: an algorithm of fewer bits than the
-- register has its generator, and all else, times x^gap.
abbrev pub gap : ℕ → Parameters → ℕ
gap n a = n - a.width

-- The generator without its highest power, as the register has it.
abbrev pub feedback : ℕ → Parameters → ℕ
feedback n a = in_order a.refin n (a.poly * 2 ^ gap n a)

-- The register after one more power of x. Its lowest bit is the highest coefficient if `refin`, else
-- its highest bit.
abbrev pub next : Bool → ℕ → ℕ → ℕ → ℕ
next true n feedback register = if register % 2 == 1 then bit_xor (register / 2) feedback else register / 2
next false n feedback register = if register / 2 ^ (n - 1) == 1 then bit_xor (register * 2 % 2 ^ n) feedback else register * 2 % 2 ^ n

-- After k more powers of x.
unfoldable pub rounds : Bool → ℕ → ℕ → ℕ → ℕ → ℕ
rounds refin n feedback zero register = register
rounds refin n feedback (suc k) register = next refin n feedback (rounds refin n feedback k register)

-- The byte i in a register of n bits, as its first eight bits.
abbrev pub first_byte : Bool → ℕ → ℕ → ℕ
first_byte true n i = i
first_byte false n i = i * 2 ^ (n - 8)

-- The entry j of tables in a row, of 256 entries each: what eight more powers of x for each table so
-- far make of a byte.
abbrev pub entry : ℕ → Parameters → ℕ → ℕ
entry n a j = rounds a.refin n (feedback n a) (8 * (j / 256 + 1)) (first_byte a.refin n (j % 256))

-- The first `count` of the numbers are the entries of an algorithm's tables.
abbrev pub AreEntries : ℕ → Parameters → ℕ → List ℕ → Type 0
AreEntries n a count entries = (j : ℕ) → j < count → slice_index entries j ≡ entry n a j

-- A register that holds the remainder of the bytes so far, times x^gap.
pub record Holds (n : ℕ) (a : Parameters) (register : ℕ) (bytes : List ℕ) : Type 0 where
  pub is_below : register < 2 ^ n
  pub is_remainder : Congruent (generator a * 2 ^ gap n a) (dividend a bytes * 2 ^ gap n a) (in_order a.refin n register)

-- The register t is the register r after k bits more, whose polynomial is p: the polynomial in it is
-- congruent to that of r times x^k, and p times x^n.
abbrev pub Takes : ℕ → Parameters → ℕ → ℕ → ℕ → ℕ → Type 0
Takes n a k r p t = Congruent (generator a * 2 ^ gap n a) (in_order a.refin n t) (bit_xor (in_order a.refin n r * 2 ^ k) (p * 2 ^ n))

-- The k bits that leave a register of n bits when k bits come, and what is left of it.
abbrev pub leaving : Bool → ℕ → ℕ → ℕ → ℕ
leaving true n k r = r % 2 ^ k
leaving false n k r = r * 2 ^ k / 2 ^ n

abbrev pub staying : Bool → ℕ → ℕ → ℕ → ℕ
staying true n k r = r / 2 ^ k
staying false n k r = r * 2 ^ k % 2 ^ n

-- The polynomial in the number t is congruent to that of the bytes, times x^n.
abbrev pub IsSumFor : ℕ → Parameters → List ℕ → ℕ → Type 0
IsSumFor n a bytes t = Congruent (generator a * 2 ^ gap n a) (in_order a.refin n t) (message a.refin bytes * 2 ^ n)

-- What is read from a register at the end: the remainder, in reverse order if `refout`.
abbrev pub read : Bool → Bool → ℕ → ℕ → ℕ → ℕ
read true true n down r = r
read false false n down r = r / 2 ^ down
read true false n down r = in_order true n r / 2 ^ down
read false true n down r = in_order true n r
