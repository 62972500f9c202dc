-- The parameters of an algorithm of the program.
use Rattle.std.specs.Prelude.{ℕ}
use Rattle.crc.specs.declared.algorithm.Algorithm.{Algorithm}
use Rattle.crc.specs.Crc.{Parameters}

-- The parameters as numbers, where `number` is the number that a value of the algorithm's type is.
abbrev pub parameters : {W : Type 0} → (W → ℕ) → Algorithm W → Parameters
parameters number a = record {
  width = a.width;
  poly = number a.poly;
  init = number a.init;
  refin = a.refin;
  refout = a.refout;
  xorout = number a.xorout;
}
