-- What `crc` prints, and how it fails.
use Rattle.std.specs.Prelude.{◌≡◌, ⊤, ℕ, List, [], ◌∷◌, ◌++◌, Option}
use Rattle.std.specs.Io.KnownBytes.{Appends}
use Rattle.pcard_bytes.specs.Checksum.{IsChecksum, checksum_name, checksum_text}
use Rattle.pcard_bytes.specs.Input.{HexFails, StandsFor}
use Rattle.pcard_bytes.specs.declared.checksum.Checksum.{Checksum}
use Rattle.pcard_bytes.specs.declared.input.InputError.{InputError}
use Rattle.pcard_message.specs.Failures.{failure_of_input}
use Rattle.pcard_message.specs.Format.{IsNameFailure}
use Rattle.pcard_message.specs.declared.failure.Failure.{Failure}
use Rattle.pcard_message.specs.declared.failure.Failure.TheVariants.{Output, UnknownChecksum}

-- What `crc NAME HEX` prints: the checksum of the bytes of HEX, on a line.
pub record PrintsChecksum (name hex : List ℕ) (known left old new : Option (List ℕ)) : Type 0 where
  pub checksum : Checksum
  pub named : name ≡ checksum_name checksum
  pub bytes : List ℕ
  pub stands : StandsFor hex known left bytes
  pub crc : ℕ
  pub is : IsChecksum checksum bytes crc
  pub printed : Appends old new (checksum_text checksum crc ++ 10 ∷ [])

-- The failure is that of reading HEX.
abbrev pub IsHexFailure : ℕ → Type 0 → List ℕ → Option (List ℕ) → Option (List ℕ) → Failure → Type 0
IsHexFailure reads steady hex known left failure = (e : InputError) × HexFails reads steady hex known left e × (failure ≡ failure_of_input e)

-- When each failure of `crc NAME HEX` comes.
abbrev pub ChecksumFails : ℕ → Type 0 → List ℕ → List ℕ → Option (List ℕ) → Option (List ℕ) → Failure → Type 0
ChecksumFails reads steady name hex known left (UnknownChecksum word) = IsNameFailure name (UnknownChecksum word)
ChecksumFails reads steady name hex known left Output = ⊤
ChecksumFails reads steady name hex known left failure = IsHexFailure reads steady hex known left failure
