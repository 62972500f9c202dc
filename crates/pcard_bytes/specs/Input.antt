-- The bytes that the argument HEX stands for, or that the input has, and the failures of reading them.
use Rattle.std.specs.Prelude.{◌≡◌, ◌≢◌, ℕ, ◌≤◌, List, length, codes, Option}
use Rattle.std.specs.Io.KnownBytes.{Consumes, IsAtEnd}
use Rattle.pcard_bytes.specs.Hexadecimal.{SpellsBytes, IsWrongHex}
use Rattle.pcard_bytes.specs.declared.input.InputError.{InputError}
use Rattle.pcard_bytes.specs.declared.input.InputError.TheVariants.{BadHex, ReadFailed, Limit, OutOfMemory}

-- The bytes are all of the input.
abbrev pub IsInput : Option (List ℕ) → Option (List ℕ) → List ℕ → Type 0
IsInput known left bytes = Consumes known left bytes × IsAtEnd left

-- The argument HEX stands for these bytes, and no others. If HEX is `-`, the whole input denotes them, and otherwise HEX does.
pub record StandsFor (hex : List ℕ) (known left : Option (List ℕ)) (bytes : List ℕ) : Type 0 where
  pub digits : List ℕ
  pub own : hex ≢ codes "-" → digits ≡ hex
  pub input : hex ≡ codes "-" → IsInput known left digits
  pub are : SpellsBytes digits bytes
  pub only : (other : List ℕ) → SpellsBytes digits other → other ≡ bytes

-- The digits of HEX are this text: the whole input if HEX is `-`, and else HEX itself.
pub record IsDigitText (hex : List ℕ) (known left : Option (List ℕ)) (digits : List ℕ) : Type 0 where
  pub own : hex ≢ codes "-" → digits ≡ hex
  pub input : hex ≡ codes "-" → IsInput known left digits

-- At least `count` bytes of the input were read.
abbrev pub ReadsAtLeast : ℕ → Option (List ℕ) → Option (List ℕ) → Type 0
ReadsAtLeast count known left = (given : List ℕ) × Consumes known left given × (count ≤ length given)

-- When each failure of reading all of the input comes. A read fails only if the input isn't steady. The limit is reached only after
-- `reads` bytes or more.
abbrev pub InputFails : ℕ → Type 0 → Option (List ℕ) → Option (List ℕ) → InputError → Type 0
InputFails reads steady known left (BadHex n) = ⊥
InputFails reads steady known left ReadFailed = steady → ⊥
InputFails reads steady known left Limit = ReadsAtLeast reads known left
InputFails reads steady known left OutOfMemory = Unit {0}

-- When each failure of reading HEX comes. `BadHex` names the first wrong character of digits that denote no bytes. A failure of the
-- input comes only if HEX is `-`.
abbrev pub HexFails : ℕ → Type 0 → List ℕ → Option (List ℕ) → Option (List ℕ) → InputError → Type 0
HexFails reads steady hex known left (BadHex n) = (digits : List ℕ) × IsDigitText hex known left digits × IsWrongHex digits n
HexFails reads steady hex known left ReadFailed = (hex ≡ codes "-") × (steady → ⊥)
HexFails reads steady hex known left Limit = (hex ≡ codes "-") × ReadsAtLeast reads known left
HexFails reads steady hex known left OutOfMemory = Unit {0}
