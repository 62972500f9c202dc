-- The rows of an explanation: those of its lines, of a checksum, and of the bytes after it.
use Rattle.std.specs.Prelude.{◌≡◌, ◌≢◌, ℕ, ◌+◌, ◌⊎◌, Bool, List, [], ◌∷◌, ◌++◌, length, codes, Option, IfSome}
use Rattle.std.specs.Io.KnownBytes.{Appends}
use Rattle.postcard_schema.specs.Paths.{plain_text}
use Rattle.postcard_explain.specs.Explained.{bytes_of}
use Rattle.postcard_explain.specs.declared.line.LineKind.TheVariants.{AfterValue}
use Rattle.postcard_explain.specs.declared.line.Line.{Line}
use Rattle.pcard_print.specs.Lines.{field_member}
use Rattle.pcard_print.specs.declared.notation.Notation.{Notation}
use Rattle.pcard_print.specs.declared.notation.Notation.TheVariants.{Text, Json}
use Rattle.pcard_explain.specs.Layouts.{PrintsRow, rows_layout}
use Rattle.pcard_explain.specs.Notes.{PrintsNotes, Trailer, rest_notes}
use Rattle.pcard_explain.specs.Places.{path_after}
use Rattle.pcard_explain.specs.Told.{IsMembers, object_text, told_text}
use Rattle.pcard_explain.specs.declared.layout.Layout.{Layout}

-- The members of a row, and the row of them.
abbrev pub PrintsObject : ℕ → List ℕ → Line → Option (List ℕ) → Option (List ℕ) → Type 0
PrintsObject at path line old new =
    (members : List ℕ) × IsMembers line.kind members × Appends old new (object_text (codes "at") at line.bytes.now (field_member path) members)

-- The row of a line with a path is printed, as text or as JSON.
abbrev pub PrintsLineIn : Notation → Layout → ℕ → List ℕ → Line → Option (List ℕ) → Option (List ℕ) → Type 0
PrintsLineIn Text layout at path line old new =
    IfSome (told_text line) (λ text. PrintsRow layout at line.depth line.bytes.now text old new)
PrintsLineIn Json layout at path line old new = PrintsObject at path line old new

-- The row of a line at this offset is printed, with this text as its path. As text it is specified if the line's text is.
abbrev pub PrintsLine : Layout → ℕ → List ℕ → Line → Option (List ℕ) → Option (List ℕ) → Type 0
PrintsLine layout = PrintsLineIn layout.notation layout

-- The rows of lines are printed, in order. The first comes after `at` bytes and the lines `before`, which are given from the last to the
-- first.
abbrev pub PrintsLines : Layout → ℕ → List Line → List Line → Option (List ℕ) → Option (List ℕ) → Type 0
PrintsLines layout at before [] old new = Appends old new []
PrintsLines layout at before (line ∷ lines) old new =
    (mid : Option (List ℕ)) × PrintsLine layout at (plain_text (path_after before line)) line old mid
    × PrintsLines layout (at + length line.bytes.now) (line ∷ before) lines mid new

-- The lines are those of a value and, if there are bytes after it, a line of these bytes.
abbrev pub IsSplit : List Line → List Line → List ℕ → Type 0
IsSplit lines value after =
    ((line : Line) × (line.kind ≡ AfterValue) × (lines ≡ value ++ line ∷ []) × (after ≡ line.bytes.now))
    ⊎ (((front : List Line) (line : Line) → lines ≡ front ++ line ∷ [] → line.kind ≢ AfterValue) × (value ≡ lines) × (after ≡ []))

-- The rows of lines are printed: those of the value, that of the checksum if there is a trailer, and that of the remaining bytes.
pub record PrintsRows (notation : Notation) (all : Bool) (trailer : Option Trailer) (lines : List Line) (old new : Option (List ℕ)) : Type 0 where
  pub value : List Line
  pub after : List ℕ
  pub split : IsSplit lines value after
  pub mid : Option (List ℕ)
  pub rows : PrintsLines (rows_layout notation all lines) 0 [] value old mid
  pub rest : PrintsNotes (rows_layout notation all lines) (rest_notes trailer (length (bytes_of value)) after) mid new
