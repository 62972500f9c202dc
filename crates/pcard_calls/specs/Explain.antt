-- What `explain` prints, and how it fails.
use Rattle.std.specs.Prelude.{◌≡◌, ◌⊎◌, ℕ, ◌+◌, ◌-◌, ◌^◌, ⊤, Bool, true, false, if◌then◌else◌, List, [], length, Option, None, Some, IfSome}
use Rattle.std.specs.Io.KnownBytes.{Appends}
use Rattle.postcard_wire.specs.declared.error.Error.{Error}
use Rattle.postcard_wire.specs.declared.error.Error.TheVariants as errors
use Rattle.postcard_cobs.specs.Groups.{EndsFrame, Groups, NoZero}
use Rattle.postcard_schema.specs.declared.schema.Schema.{Schema}
use Rattle.postcard_explain.specs.Explained.{IsExplained, bytes_of}
use Rattle.postcard_explain.specs.RefusedLines.{IsExplainedUpTo}
use Rattle.postcard_explain.specs.declared.line.Line.{Line}
use Rattle.postcard_value.specs.Fronts.{HasNoFront}
use Rattle.postcard_value.specs.declared.value.Value.{Value}
use Rattle.pcard_bytes.specs.Checksum.{bytes_for, checksum_name, parameters_of}
use Rattle.pcard_bytes.specs.declared.checksum.Checksum.{Checksum}
use Rattle.pcard_explain.specs.Notes.{PrintsNotes, Trailer, beyond_notes, frame_layout, frame_notes}
use Rattle.pcard_explain.specs.Rows.{PrintsRows}
use Rattle.pcard_message.specs.Reading.{IsNext, PrintsRefusal}
use Rattle.pcard_message.specs.Receiving.{LacksLine}
use Rattle.pcard_message.specs.declared.failure.Failure.{Failure}
use Rattle.pcard_message.specs.declared.failure.Failure.TheVariants.{Library, Output, Refused}
use Rattle.pcard_message.specs.declared.format.Format.{Format}
use Rattle.pcard_print.specs.Answers.{value}
use Rattle.pcard_print.specs.declared.notation.Notation.{Notation}
use Rattle.pcard_print.specs.declared.notation.Notation.TheVariants.{Text, Json}

-- ---- rows

-- The most elements of a list that have rows of their own: 16 as text without `all`, and else 2^64 - 1.
abbrev pub most_of : Notation → Bool → ℕ
most_of Text false = 16
most_of notation all = 2 ^ 64 - 1

-- The lines explain the data. Without an error they are those of a value and the bytes after it, and else those up to the part that
-- can't be read.
abbrev pub AreLinesOf : Schema → ℕ → List ℕ → Option Error → List Line → Type 0
AreLinesOf schema most content None lines = IsExplained most schema content lines
AreLinesOf schema most content (Some error) lines = HasNoFront schema content × IsExplainedUpTo most schema lines

-- The checksum that has a row: that of the format, after a value that is read.
abbrev pub trailer_after : Option Checksum → Option Error → Option Trailer
trailer_after (Some c) None = Some (record { name = checksum_name c; size = bytes_for (parameters_of c).width })
trailer_after checksum refused = None

-- The rows of a message's data are printed. Each byte is on one of them.
pub record PrintsRowsOf (format : Format) (all : Bool) (content : List ℕ) (old new : Option (List ℕ)) : Type 0 where
  pub lines : List Line
  pub refused : Option Error
  pub every_byte : bytes_of lines ≡ content
  pub are : AreLinesOf format.schema (most_of format.notation all) content refused lines
  pub rows : PrintsRows format.notation all (trailer_after format.checksum refused) lines old new

-- No zero ends the first frame of the bytes, or it is no COBS frame.
abbrev pub HasNoData : List ℕ → Type 0
HasNoData bytes =
    NoZero bytes ⊎ ((frame : List ℕ) × (after : List ℕ) × EndsFrame bytes frame after × ((content : List ℕ) → Groups frame content → ⊥))

-- The rows of the first frame of the bytes are printed: those of its code bytes, that of the bytes after it, and those of its data.
pub record PrintsBoth (format : Format) (all : Bool) (bytes : List ℕ) (old new : Option (List ℕ)) : Type 0 where
  pub frame : List ℕ
  pub after : List ℕ
  pub ends : EndsFrame bytes frame after
  pub content : List ℕ
  pub groups : Groups frame content
  pub coded : Option (List ℕ)
  pub codes_rows : PrintsNotes (frame_layout format.notation frame) (frame_notes 0 0 frame) old coded
  pub mid : Option (List ℕ)
  pub after_row : PrintsNotes (frame_layout format.notation frame) (beyond_notes (length frame + 1) after) coded mid
  pub content_rows : PrintsRowsOf format all content mid new

-- The rows of the first frame are printed, or nothing if the bytes begin with no frame that has data.
abbrev pub PrintsFrameRows : Format → Bool → List ℕ → Option (List ℕ) → Option (List ℕ) → Type 0
PrintsFrameRows format all bytes old new = PrintsBoth format all bytes old new ⊎ (HasNoData bytes × (new ≡ old))

-- The rows of the first message or frame.
abbrev pub PrintsRowsIn : Bool → Format → Bool → List ℕ → Option (List ℕ) → Option (List ℕ) → Type 0
PrintsRowsIn true format all bytes old new = PrintsFrameRows format all bytes old new
PrintsRowsIn false format all bytes old new = PrintsRowsOf format all bytes old new

-- ---- `explain`

-- What `explain` prints of bytes that begin with a message or frame.
pub record PrintsExplained (format : Format) (all : Bool) (bytes : List ℕ) (old new : Option (List ℕ)) : Type 0 where
  pub value_of : Value
  pub rest : List ℕ
  pub after : List ℕ
  pub is : IsNext format bytes (value value_of rest) after
  pub rows : PrintsRowsIn format.framed format all bytes old new

-- The first message or frame is refused: the line that says so is printed after the rows.
pub record StopsExplaining (format : Format) (all : Bool) (bytes : List ℕ) (old new : Option (List ℕ)) : Type 0 where
  pub mid : Option (List ℕ)
  pub rows : PrintsRowsIn format.framed format all bytes old mid
  pub refusal : PrintsRefusal format 0 bytes mid new

-- When each failure of `explain` comes.
abbrev pub ExplainFails : Format → Bool → List ℕ → Option (List ℕ) → Option (List ℕ) → Failure → Type 0
ExplainFails format all bytes old new Refused = StopsExplaining format all bytes old new
ExplainFails format all bytes old new (Library e) = (e ≡ errors.OutOfMemory) ⊎ LacksLine format.notation e
ExplainFails format all bytes old new Output = ⊤
ExplainFails format all bytes old new failure = ⊥
