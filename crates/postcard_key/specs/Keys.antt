-- The key of a type: a checksum of its text.
use Rattle.std.specs.Prelude.{ℕ, List, ◌++◌}
use Rattle.crc.specs.Algorithm.{parameters}
use Rattle.crc.specs.Crc.{Parameters, IsCrc}
use Rattle.crc.specs.Digest.{Progress, Took}
use Rattle.crc.specs.declared.catalog.TheConstants.{CRC_64_XZ}
use Rattle.postcard_schema.specs.Meaning.{MessageType}
use Rattle.postcard_schema.specs.Views.{View}
use Rattle.postcard_key.specs.Shape.{shape_text}
use Rattle.postcard_schema.specs.Named.{named_text}

-- CRC-64/XZ, by its parameters.
abbrev pub xz : Parameters
xz = parameters (λ n. n) CRC_64_XZ

-- The number is the key of the type: the checksum of its shape's text.
abbrev pub IsKey : MessageType → ℕ → Type 0
IsKey t key = IsCrc xz (shape_text t) key

-- The number is the key of the type with its names.
abbrev pub IsNamedKey : View → ℕ → Type 0
IsNamedKey v key = IsCrc xz (named_text v) key

-- The digest e has taken what d has, and then the bytes xs.
pub record Continues (d : Progress) (xs : List ℕ) (e : Progress) : Type 0 where
  pub takes : (a : Parameters) (m : List ℕ) → Took d a m → Took e a (m ++ xs)
