-- The answer to the first message or frame of some bytes: the value of a message or a frame, or why there is none.
use Rattle.std.specs.Prelude.{◌≡◌, ◌≢◌, ◌≤◌, ◌⊎◌, ℕ, ◌+◌, ◌-◌, Bool, true, false, List, [], ◌∷◌, length, Option, None, Some}
use Rattle.std.specs.Io.KnownBytes.{Appends}
use Rattle.postcard_wire.specs.declared.error.Error.{Error}
use Rattle.postcard_wire.specs.declared.error.Error.TheVariants.{OutOfMemory}
use Rattle.postcard_cobs.specs.Groups.{EndsFrame, Groups, NoZero}
use Rattle.postcard_shape.specs.Shape.{memory}
use Rattle.postcard_de.specs.Front.{ReadsFront}
use Rattle.postcard_de.specs.Reads.{IsReadError}
use Rattle.postcard_schema.specs.declared.path.Step.{Step}
use Rattle.postcard_schema.specs.declared.schema.Schema.{Schema}
use Rattle.postcard_schema.specs.Meaning.{type_of, reads}
use Rattle.postcard_schema.specs.Paths.{path_text}
use Rattle.postcard_value.specs.Refused.{IsRefusedAt}
use Rattle.postcard_value.specs.Tree.{IsTree}
use Rattle.postcard_value.specs.declared.value.Value.{Value}
use Rattle.pcard_bytes.specs.Checksum.{HasNoTrailer, IsTrailer}
use Rattle.pcard_bytes.specs.declared.checksum.Checksum.{Checksum}
use Rattle.pcard_print.specs.Answers.{Answer, Why, value, refused}
use Rattle.pcard_print.specs.Lines.{PrintsFirst, PrintsValue, refusal_line}
use Rattle.pcard_print.specs.declared.refusal.Reason.{Reason}
use Rattle.pcard_print.specs.declared.refusal.Reason.TheVariants.{Unread, BadChecksum, NoCobs, NoZero as NoZeroEnds}
use Rattle.pcard_message.specs.declared.format.Format.{Format}

-- ---- the data of a message

-- A prefix of the bytes encodes a tree of the schema, the value has this tree, and `rest` is the bytes after the prefix.
abbrev pub ReadsValue : Schema → List ℕ → Value → List ℕ → Type 0
ReadsValue schema bytes v rest = ReadsFront (reads (type_of schema)) IsTree bytes v rest

-- The bytes `behind`, which follow a message, are its checksum, if there is one, and then `rest`.
abbrev pub IsBehind : Option Checksum → List ℕ → List ℕ → List ℕ → Type 0
IsBehind None message behind rest = rest ≡ behind
IsBehind (Some c) message behind rest = IsTrailer c message behind rest

-- There is a checksum, and `behind`, which follows the message, doesn't begin with it.
abbrev pub LacksChecksum : Option Checksum → List ℕ → List ℕ → Type 0
LacksChecksum None message behind = ⊥
LacksChecksum (Some c) message behind = (e : Error) × HasNoTrailer c message behind e

-- The bytes are the message of a value, its checksum, if there is one, and then `rest`.
abbrev pub ReadsData : Format → List ℕ → Value → List ℕ → Type 0
ReadsData format bytes v rest =
    (behind : List ℕ) × (is : ReadsValue format.schema bytes v behind) × IsBehind format.checksum is.front behind rest

-- No prefix of the bytes encodes a value. `w` names the part at which reading stops, where it begins, and the error of reading it.
pub record IsUnread (schema : Schema) (bytes : List ℕ) (w : Why) : Type 0 where
  pub no_value : (v : Value) (rest : List ℕ) → ReadsValue schema bytes v rest → ⊥
  pub error : Error
  pub reason : w.reason ≡ Unread error
  pub named : IsReadError memory error
  pub not_memory : error ≢ OutOfMemory
  pub path : List Step
  pub at : IsRefusedAt schema bytes path w.offset
  pub within : w.offset ≤ length bytes
  pub path_is : w.path ≡ path_text path

-- A prefix of the bytes is the message of a value, and its checksum doesn't follow. The offset is that at which the checksum should begin.
pub record IsUnchecked (format : Format) (bytes : List ℕ) (w : Why) : Type 0 where
  pub value : Value
  pub behind : List ℕ
  pub is : ReadsValue format.schema bytes value behind
  pub lacks : LacksChecksum format.checksum is.front behind
  pub reason : w.reason ≡ BadChecksum
  pub at : w.offset ≡ length is.front
  pub path_is : w.path ≡ []

-- Why the bytes are no data of a message. Nothing of them is shown.
abbrev pub IsBadData : Format → List ℕ → Why → Type 0
IsBadData format bytes w = (IsUnread format.schema bytes w ⊎ IsUnchecked format bytes w) × (w.shown ≡ None)

-- The answer to the data of a message: the value and the bytes after it, or why there is none.
abbrev pub IsDataAnswer : Format → List ℕ → Answer → Type 0
IsDataAnswer format content (value v rest) = ReadsData format content v rest
IsDataAnswer format content (refused w) = IsBadData format content w

-- ---- a frame, without the zero that ends it

-- The refusal of a frame's data, as a refusal of the frame. Its offset is that of the frame's first byte, and it shows the data.
abbrev pub in_frame : List ℕ → Why → Why
in_frame content w = record w { offset = 0; shown = Some content }

-- The answer to the frame of this data.
abbrev pub IsContentAnswer : Format → List ℕ → Answer → Type 0
IsContentAnswer format content (value v rest) = ReadsData format content v rest
IsContentAnswer format content (refused w) = (inner : Why) × IsBadData format content inner × (w ≡ in_frame content inner)

-- The refusal of bytes as a whole, which shows them.
abbrev pub whole : Reason → List ℕ → Why
whole reason bytes = record { offset = 0; reason = reason; path = []; shown = Some bytes }

-- The refusal of bytes that are no COBS frame.
abbrev pub no_cobs : List ℕ → Why
no_cobs frame = whole NoCobs frame

-- The refusal of bytes without a zero: no zero ends the frame.
abbrev pub no_zero : List ℕ → Why
no_zero bytes = whole NoZeroEnds bytes

-- The answer to a frame.
abbrev pub IsFrameAnswer : Format → List ℕ → Answer → Type 0
IsFrameAnswer format frame (value v rest) = (content : List ℕ) × Groups frame content × ReadsData format content v rest
IsFrameAnswer format frame (refused w) =
    ((content : List ℕ) × (inner : Why) × Groups frame content × IsBadData format content inner × (w ≡ in_frame content inner))
    ⊎ (((content : List ℕ) → Groups frame content → ⊥) × (w ≡ no_cobs frame))

-- ---- the first message or frame of some bytes, and the bytes after it

-- Without frames, the bytes after the value are those after the message. A refusal takes nothing.
abbrev pub IsNextData : Format → List ℕ → Answer → List ℕ → Type 0
IsNextData format bytes (value v rest) after = (rest ≡ []) × ReadsData format bytes v after
IsNextData format bytes (refused w) after = (after ≡ bytes) × IsBadData format bytes w

-- The answer to the first frame of the bytes, and the bytes after it.
abbrev pub IsNextFrame : Format → List ℕ → Answer → List ℕ → Type 0
IsNextFrame format bytes answer after =
    ((frame : List ℕ) × EndsFrame bytes frame after × IsFrameAnswer format frame answer)
    ⊎ (NoZero bytes × (after ≡ bytes) × (answer ≡ refused (no_zero bytes)))

-- The answer to the first frame or, without frames, to the first message.
abbrev pub IsNextIn : Bool → Format → List ℕ → Answer → List ℕ → Type 0
IsNextIn true format bytes answer after = IsNextFrame format bytes answer after
IsNextIn false format bytes answer after = IsNextData format bytes answer after

-- The answer to the first message or frame of the bytes in this format, and the bytes after it.
abbrev pub IsNext : Format → List ℕ → Answer → List ℕ → Type 0
IsNext format bytes answer after = IsNextIn format.framed format bytes answer after

-- ---- `dec` and `decs`

-- What `dec` prints of bytes: the value of the first message or frame, and the bytes after it.
pub record PrintsOne (format : Format) (bytes : List ℕ) (old new : Option (List ℕ)) : Type 0 where
  pub value_of : Value
  pub rest : List ℕ
  pub after : List ℕ
  pub is : IsNext format bytes (value value_of rest) after
  pub printed : PrintsFirst format.notation format.framed format.schema value_of rest after old new

-- The first message or frame of bytes is refused, and the line that says so is printed. The bytes come after `before` others.
pub record PrintsRefusal (format : Format) (before : ℕ) (bytes : List ℕ) (old new : Option (List ℕ)) : Type 0 where
  pub why : Why
  pub after : List ℕ
  pub is : IsNext format bytes (refused why) after
  pub printed : Appends old new (refusal_line format.notation before why)

-- A value, and the bytes of its frame's data after it.
pub record Found : Type 0 where
  pub value_of : Value
  pub rest : List ℕ

-- The first message or frame of the bytes, which come after `before` others, is a value, whose line is printed.
pub record PrintsNext (format : Format) (before : ℕ) (bytes after : List ℕ) (old new : Option (List ℕ)) : Type 0 where
  pub found : Found
  pub is : IsNext format bytes (value found.value_of found.rest) after
  pub printed : PrintsValue format.notation format.schema before found.value_of found.rest old new

-- The bytes, which come after `before` others, are messages or frames with these values, and then `left`. The line of each value is
-- printed.
abbrev pub PrintsValues : Format → ℕ → List ℕ → List Found → List ℕ → Option (List ℕ) → Option (List ℕ) → Type 0
PrintsValues format before bytes [] left old new = (left ≡ bytes) × Appends old new []
PrintsValues format before bytes (f ∷ more) left old new =
    (after : List ℕ) × (mid : Option (List ℕ)) × IsNext format bytes (value f.value_of f.rest) after
    × PrintsValue format.notation format.schema before f.value_of f.rest old mid
    × PrintsValues format (before + (length bytes - length after)) after more left mid new

-- What `decs` prints of bytes: the values of all messages or frames.
abbrev pub PrintsAll : Format → List ℕ → Option (List ℕ) → Option (List ℕ) → Type 0
PrintsAll format bytes old new = (found : List Found) × PrintsValues format 0 bytes found [] old new

-- The values up to one that is refused, whose line is printed last. `left` are the bytes from it on.
pub record StopsPrinting (format : Format) (bytes : List ℕ) (old new : Option (List ℕ)) : Type 0 where
  pub found : List Found
  pub left : List ℕ
  pub mid : Option (List ℕ)
  pub values : PrintsValues format 0 bytes found left old mid
  pub refused : PrintsRefusal format (length bytes - length left) left mid new
