-- What a contract sees of a checksum that is computed as its message comes in.
use Rattle.std.specs.Prelude.{◌≡◌, ℕ, List}
use Rattle.crc.specs.Crc.{Parameters, IsValid}
use Rattle.crc.specs.Register.{Holds}

-- A digest: its algorithm, and a register of some bits.
pub record Progress : Type 0 where
  pub algorithm : Parameters
  pub bits : ℕ
  pub register : ℕ

-- The digest has taken the bytes, for the algorithm a, which is its own but for `init`.
pub record Took (d : Progress) (a : Parameters) (bytes : List ℕ) : Type 0 where
  pub is_valid : IsValid d.bits a
  pub same : record d.algorithm { init = a.init } ≡ a
  pub holds : Holds d.bits a d.register bytes
