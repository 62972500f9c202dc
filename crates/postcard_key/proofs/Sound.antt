-- The parameters of CRC-64/XZ meet the conditions of the law on bursts.
use Rattle.std.proofs.Common.{refl, arith}
use Rattle.crc.specs.Crc.{IsSound}
use Rattle.postcard_key.specs.Keys.{xz}

pub xz_sound : IsSound xz
xz_sound = record { some = omega arith; degree = omega arith; odd = refl; added = omega arith }
