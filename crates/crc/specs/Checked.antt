-- A checked message: a message with its checksum after it, lowest byte first. postcard calls it a
-- message with a CRC.
use Rattle.std.specs.Prelude.{◌≡◌, ℕ, zero, suc, ◌/◌, ◌%◌, ◌<◌, List, [], ◌∷◌, ◌++◌}
use Rattle.std.specs.Prelude.{⊤}
use Rattle.crc.specs.Crc.{Parameters, IsCrc}

-- The k bytes of a number, the lowest first.
abbrev pub low_bytes : ℕ → ℕ → List ℕ
low_bytes zero n = []
low_bytes (suc k) n = n % 256 ∷ low_bytes k (n / 256)

-- Each element is below 256.
abbrev pub AreBytes : List ℕ → Type 0
AreBytes [] = ⊤
AreBytes (b ∷ bs) = (b < 256) × AreBytes bs

-- The checked message is some bytes, and then their checksum of k bytes.
pub record IsChecked (a : Parameters) (k : ℕ) (checked : List ℕ) : Type 0 where
  pub bytes : List ℕ
  pub crc : ℕ
  pub is_crc : IsCrc a bytes crc
  pub joins : checked ≡ bytes ++ low_bytes k crc
