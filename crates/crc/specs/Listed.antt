-- The values that the catalogue lists beside an algorithm's parameters, for its readers to compare with.
use Rattle.std.specs.Prelude.{ℕ, ◌+◌, ◌*◌, ◌^◌, ◌<◌, List, length, bit_xor, codes}
use Rattle.crc.specs.Polynomial.{Congruent}
use Rattle.crc.specs.Crc.{Parameters, in_order, message, generator, IsCrc}
use Rattle.crc.specs.declared.algorithm.Algorithm.{Algorithm}
use Rattle.crc.specs.Algorithm.{parameters}

-- A message with its checksum after it, as a polynomial: the coefficient of the highest power comes first.
abbrev pub codeword : Parameters → List ℕ → ℕ → ℕ
codeword a bytes crc = bit_xor (message a.refin bytes * 2 ^ a.width) (in_order a.refout a.width crc)

-- The number is the remainder of each message with its checksum after it: with `init` added to its first bits, in
-- reverse order if `refout`, and without `xorout`.
pub record IsResidue (a : Parameters) (residue : ℕ) : Type 0 where
  pub is_below : residue < 2 ^ a.width
  pub is_remainder : (bytes : List ℕ) (crc : ℕ) → IsCrc a bytes crc
      → Congruent (generator a) (bit_xor (codeword a bytes crc * 2 ^ a.width) (a.init * 2 ^ (8 * length bytes + a.width))) (in_order a.refout a.width residue)

-- The values of an algorithm whose type is one of plain numbers.
pub record IsListed (a : Algorithm ℕ) : Type 0 where
  pub check : IsCrc (parameters (λ n. n) a) (codes "123456789") a.check
  pub residue : IsResidue (parameters (λ n. n) a) a.residue
