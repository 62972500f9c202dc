-- Rows of bytes that are no part of a value: a checksum, the bytes after a message, and the code bytes of a frame.
use Rattle.std.specs.Prelude.{ℕ, ◌+◌, ◌-◌, nat_eq, nat_lt, Bool, true, if◌then◌else◌, ◌&&◌, List, [], ◌∷◌, ◌++◌, length, take, drop, codes, Option, None, Some}
use Rattle.std.specs.Fmt.{decimal}
use Rattle.std.specs.Io.KnownBytes.{Appends}
use Rattle.json.specs.Print.{quoted}
use Rattle.pcard_print.specs.declared.notation.Notation.{Notation}
use Rattle.pcard_print.specs.declared.notation.Notation.TheVariants.{Text, Json}
use Rattle.pcard_explain.specs.Layouts.{PrintsRow, offset_size}
use Rattle.pcard_explain.specs.Told.{object_text}
use Rattle.pcard_explain.specs.declared.layout.Layout.{Layout}
use Rattle.pcard_explain.specs.declared.note.Note.{Note as NoteHere}
use Rattle.pcard_explain.specs.declared.note.Note.TheVariants as notes
use Rattle.pcard_explain.specs.declared.rows.Trailer.{Trailer as TrailerHere}

-- ---- what notes say

-- What a row says of its bytes. They are a named checksum, the bytes after the value, a group's code byte, a frame's last zero, or the
-- bytes after the frame. A code byte says whether a zero of the data follows its group.
pub data Note : Type 0 where
  checksum : List ℕ → Note
  after : Note
  code : ℕ → Bool → Note
  end : Note
  beyond : Note

-- The note that a value of the program stands for.
abbrev pub plain_note : NoteHere → Note
plain_note (notes.Checksum r) = checksum r.now
plain_note notes.After = after
plain_note (notes.Code c zero) = code c zero
plain_note notes.End = end
plain_note notes.Beyond = beyond

-- The text of a code byte's zero: that the data has one after the group, or nothing.
abbrev pub zero_text : Bool → List ℕ
zero_text zero = if zero then codes ", then a zero" else []

-- The words for the number of bytes of a group.
abbrev pub group_text : ℕ → List ℕ
group_text n = if nat_eq n 0 then codes "no bytes" else if nat_eq n 1 then codes "1 byte" else decimal n ++ codes " bytes"

-- The words for a code byte: its group, and the zero after it if there is one.
abbrev pub code_text : ℕ → Bool → List ℕ
code_text c zero = codes "code: " ++ (group_text (c - 1) ++ zero_text zero)

-- The text of a row of a note.
abbrev pub note_text : Note → List ℕ
note_text (checksum name) = codes "checksum: " ++ name
note_text after = codes "after the value"
note_text (code c zero) = code_text c zero
note_text end = codes "end of the frame"
note_text beyond = codes "after the frame"

-- The members of a note in a row of JSON.
abbrev pub note_members : Note → List ℕ
note_members (checksum name) = codes ",\"checksum\":" ++ quoted name
note_members after = codes ",\"rest\":true"
note_members (code c zero) = codes ",\"code\":" ++ (decimal c ++ (codes ",\"zero\":" ++ (if zero then codes "true" else codes "false")))
note_members end = codes ",\"end\":true"
note_members beyond = codes ",\"after\":true"

-- The name of the offset in JSON.
abbrev pub key_text : Note → List ℕ
key_text (checksum name) = codes "at"
key_text after = codes "at"
key_text (code c zero) = codes "frame"
key_text end = codes "frame"
key_text beyond = codes "frame"

-- ---- rows

-- The row of a note is printed, as text or as JSON.
abbrev pub PrintsNoteIn : Notation → Layout → ℕ → List ℕ → Note → Option (List ℕ) → Option (List ℕ) → Type 0
PrintsNoteIn Text layout at bytes note old new = PrintsRow layout at 0 bytes (note_text note) old new
PrintsNoteIn Json layout at bytes note old new = Appends old new (object_text (key_text note) at bytes [] (note_members note))

-- The row of bytes at this offset, with this note, is printed.
abbrev pub PrintsNote : Layout → ℕ → List ℕ → Note → Option (List ℕ) → Option (List ℕ) → Type 0
PrintsNote layout = PrintsNoteIn layout.notation layout

-- A row: its offset, its bytes, and what it says.
pub record Noted : Type 0 where
  pub at : ℕ
  pub bytes : List ℕ
  pub note : Note

-- The rows are printed, in order.
abbrev pub PrintsNotes : Layout → List Noted → Option (List ℕ) → Option (List ℕ) → Type 0
PrintsNotes layout [] old new = Appends old new []
PrintsNotes layout (row ∷ rows) old new =
    (mid : Option (List ℕ)) × PrintsNote layout row.at row.bytes row.note old mid × PrintsNotes layout rows mid new

-- ---- after a value

-- A checksum after a message: its name, and the number of its bytes.
pub record Trailer : Type 0 where
  pub name : List ℕ
  pub size : ℕ

-- The trailer that a value of the program stands for.
abbrev pub plain_trailer : TrailerHere → Trailer
plain_trailer t = record { name = t.name.now; size = t.size }

-- The row of the bytes after a message, if there are some.
abbrev pub after_notes : ℕ → List ℕ → List Noted
after_notes at [] = []
after_notes at (b ∷ bytes) = record { at = at; bytes = b ∷ bytes; note = after } ∷ []

-- The rows of the bytes after a value: that of the checksum, if there is one, and that of the bytes after it.
abbrev pub rest_notes : Option Trailer → ℕ → List ℕ → List Noted
rest_notes None at bytes = after_notes at bytes
rest_notes (Some t) at bytes =
    record { at = at; bytes = take t.size bytes; note = checksum t.name } ∷ after_notes (at + length (take t.size bytes)) (drop t.size bytes)

-- ---- frames

-- The data has a zero after the group of the code c: another group follows, and this one isn't full. The number n is that of the frame's
-- bytes after the group.
abbrev pub has_zero : ℕ → ℕ → Bool
has_zero c n = nat_lt c 255 && nat_lt (c - 1) n

-- The rows of a frame's bytes from this offset on: one for each code byte, and one for the zero after the frame. The first `left` bytes are
-- those of a group.
abbrev pub frame_notes : ℕ → ℕ → List ℕ → List Noted
frame_notes at left [] = record { at = at; bytes = 0 ∷ []; note = end } ∷ []
frame_notes at left (b ∷ bytes) =
    if nat_eq left 0 then record { at = at; bytes = b ∷ []; note = code b (has_zero b (length bytes)) } ∷ frame_notes (at + 1) (b - 1) bytes
    else frame_notes (at + 1) (left - 1) bytes

-- The row of the bytes after a frame, if there are some.
abbrev pub beyond_notes : ℕ → List ℕ → List Noted
beyond_notes at [] = []
beyond_notes at (b ∷ bytes) = record { at = at; bytes = b ∷ bytes; note = beyond } ∷ []

-- The layout of these rows.
abbrev pub frame_layout : Notation → List ℕ → Layout
frame_layout notation frame = record { notation = notation; offset = offset_size (length frame); longest = 1; all = true }
