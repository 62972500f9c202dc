-- Which rows a frame's code bytes have, and which the bytes after a value.
use Rattle.std.specs.Prelude.{◌≡◌, ℕ, ◌+◌, not, eqb, false, List, [], ◌∷◌, ◌++◌, length}
use Rattle.postcard_cobs.specs.Groups.{Groups}
use Rattle.postcard_schema.specs.Meaning.{type_of}
use Rattle.postcard_schema.specs.declared.schema.Schema.{Schema}
use Rattle.postcard_value.specs.Fronts.{FrontSpells}
use Rattle.postcard_explain.specs.Explained.{bytes_of, IsExplained}
use Rattle.postcard_explain.specs.declared.line.Line.{Line}
use Rattle.pcard_explain.specs.Notes.{Noted, code, end, frame_notes}
use Rattle.pcard_explain.specs.Rows.{IsSplit}

-- The rows of groups, one after another. Each has a row for its code byte, which is the number of its bytes and one. One row is for the
-- zero after them. The data has a zero after each group that isn't full and that another group follows.
abbrev pub group_notes : ℕ → List (List ℕ) → List ℕ → List Noted
group_notes at [] last =
    record { at = at; bytes = (length last + 1) ∷ []; note = code (length last + 1) false } ∷ record { at = at + (length last + 1); bytes = 0 ∷ []; note = end } ∷ []
group_notes at (group ∷ groups) last =
    record { at = at; bytes = (length group + 1) ∷ []; note = code (length group + 1) (not (eqb (length group) 254)) } ∷ group_notes (at + (length group + 1)) groups last

-- The rows of a frame are those of its groups.
abbrev pub HasCodesOfGroups : Type 0
HasCodesOfGroups = (F d : List ℕ) (groups : Groups F d) → frame_notes 0 0 F ≡ group_notes 0 groups.before groups.last

-- Let bytes begin with a value. In their rows the lines of the value have its encoding, and the rows after them have the remaining bytes.
abbrev pub PartsAfterValue : Type 0
PartsAfterValue = (most : ℕ) (schema : Schema) (bytes : List ℕ) (lines value : List Line) (after : List ℕ) → IsExplained most schema bytes lines
    → IsSplit lines value after → FrontSpells (type_of schema) (bytes_of value) × (bytes ≡ bytes_of value ++ after)
