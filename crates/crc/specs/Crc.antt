-- The checksum of a message: the remainder of the message, read as a polynomial, by the generator of
-- an algorithm (the parameters of R. Williams, "A painless guide to CRC error detection algorithms",
-- 1993, by which catalogues list algorithms).
use Rattle.std.specs.Prelude.{◌≡◌, ℕ, ◌+◌, ◌*◌, ◌%◌, ◌^◌, ◌<◌, ◌≤◌, List, map, length, Bool, true, false, bit_xor}
use Rattle.std.specs.Int.{reverse_bits_onto}
use Rattle.std.specs.Int.Digits.{number_from_digits}
use Rattle.crc.specs.Polynomial.{Congruent}

-- The parameters of an algorithm, as numbers.
pub record Parameters : Type 0 where
  pub width : ℕ
  pub poly : ℕ
  pub init : ℕ
  pub refin : Bool
  pub refout : Bool
  pub xorout : ℕ

-- The w bits of n: in reverse order if they are reflected.
abbrev pub in_order : Bool → ℕ → ℕ → ℕ
in_order true w n = reverse_bits_onto w n 0
in_order false w n = n

-- A message as a polynomial: its bytes in order, and of each byte the lowest bit first if `refin`, or
-- the highest bit first. The first bit is the coefficient of the highest power of x.
abbrev pub message : Bool → List ℕ → ℕ
message refin bytes = number_from_digits 256 (map (in_order refin 8) bytes)

-- The generator: x^width, and `poly` below it.
abbrev pub generator : Parameters → ℕ
generator a = 2 ^ a.width + a.poly

-- The message times x^width, with `init` added to its first bits.
abbrev pub dividend : Parameters → List ℕ → ℕ
dividend a bytes = bit_xor (message a.refin bytes * 2 ^ a.width) (a.init * 2 ^ (8 * length bytes))

-- `crc` is the checksum of the bytes: the remainder, in reverse order if `refout`, with `xorout`
-- added.
pub record IsCrc (a : Parameters) (bytes : List ℕ) (crc : ℕ) : Type 0 where
  pub remainder : ℕ
  pub is_below : remainder < 2 ^ a.width
  pub is_remainder : Congruent (generator a) (dividend a bytes) remainder
  pub gives : crc ≡ bit_xor (in_order a.refout a.width remainder) a.xorout

-- The parameters fit in numbers of n bits: the width is 1 to n, and the others are below 2^width.
pub record IsValid (n : ℕ) (a : Parameters) : Type 0 where
  pub some : 1 ≤ a.width
  pub narrow : a.width ≤ n
  pub degree : a.poly < 2 ^ a.width
  pub starts : a.init < 2 ^ a.width
  pub added : a.xorout < 2 ^ a.width

-- The generator has degree `width`, and the constant term 1, so that x does not divide it; a checksum
-- has no more bits.
pub record IsSound (a : Parameters) : Type 0 where
  pub some : 1 ≤ a.width
  pub degree : a.poly < 2 ^ a.width
  pub odd : a.poly % 2 ≡ 1
  pub added : a.xorout < 2 ^ a.width
