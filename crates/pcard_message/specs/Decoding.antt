-- How `dec` and `decs` fail.
use Rattle.std.specs.Prelude.{◌≡◌, ◌⊎◌, ℕ, ⊤, false, List, Option, None}
use Rattle.postcard_wire.specs.declared.error.Error.TheVariants as errors
use Rattle.postcard_schema.specs.Meaning.{has_bytes, type_of}
use Rattle.pcard_message.specs.Reading.{PrintsRefusal, StopsPrinting}
use Rattle.pcard_message.specs.Receiving.{LacksLine}
use Rattle.pcard_message.specs.declared.failure.Failure.{Failure}
use Rattle.pcard_message.specs.declared.failure.Failure.TheVariants.{Library, NoBytes, Output, Refused}
use Rattle.pcard_message.specs.declared.format.Format.{Format}

-- A message of the format may be empty: the format has no frame and no checksum, and a value of the type may have no bytes.
abbrev pub LacksBytes : Format → Type 0
LacksBytes format = (format.framed ≡ false) × (format.checksum ≡ None) × (has_bytes (type_of format.schema) ≡ false)

-- When each failure of printing the first value of `bytes` comes. There are `before` bytes before them.
abbrev pub NextFails : Format → ℕ → List ℕ → Option (List ℕ) → Option (List ℕ) → Failure → Type 0
NextFails format before bytes old new Refused = PrintsRefusal format before bytes old new
NextFails format before bytes old new (Library e) = (e ≡ errors.OutOfMemory) ⊎ LacksLine format.notation e
NextFails format before bytes old new Output = ⊤
NextFails format before bytes old new failure = ⊥

-- When each failure of `dec` comes.
abbrev pub DecodeFails : Format → List ℕ → Option (List ℕ) → Option (List ℕ) → Failure → Type 0
DecodeFails format bytes old new e = NextFails format 0 bytes old new e

-- When each failure of `decs` comes.
abbrev pub DecodeAllFails : Format → List ℕ → Option (List ℕ) → Option (List ℕ) → Failure → Type 0
DecodeAllFails format bytes old new Refused = StopsPrinting format bytes old new
DecodeAllFails format bytes old new NoBytes = LacksBytes format × (new ≡ old)
DecodeAllFails format bytes old new (Library e) = (e ≡ errors.OutOfMemory) ⊎ LacksLine format.notation e
DecodeAllFails format bytes old new Output = ⊤
DecodeAllFails format bytes old new failure = ⊥
