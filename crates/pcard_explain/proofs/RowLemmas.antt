-- Rows that are printed one after another are the rows of the lines, of the notes after them, and of a frame's code bytes.
use Rattle.std.proofs.Common.{◌≡◌, ℕ, ◌+◌, ◌-◌, ◌^◌, ◌<◌, Bool, false, List, [], ◌∷◌, ◌++◌, length, take, drop, get_or, Option, Some, None, refl, sym, ap, ◌∙◌, add-one, arith, drop-cons, length-append, length-drop}
use Rattle.std.specs.Prelude.{if◌then◌else◌, codes, min, nat_eq}
use Rattle.std.specs.Io.KnownBytes.{Appends}
use Rattle.std.proofs.KnownBytes.{Appends-nil, Appends-trans}
use Rattle.std.proofs.Output.{if_some_weaken}
use Rattle.std.proofs.lemmas.Bool.{ne_eqb}
use Rattle.postcard_schema.specs.Paths.{plain_text}
use Rattle.postcard_explain.specs.Explained.{bytes_of}
use Rattle.postcard_explain.specs.declared.line.Line.{Line}
use Rattle.pcard_print.specs.Lines.{field_member, offset}
use Rattle.pcard_print.specs.declared.notation.Notation.{Notation}
use Rattle.pcard_print.specs.declared.notation.Notation.TheVariants.{Text, Json}
use Rattle.pcard_explain.specs.Notes.{Note, checksum, after, code, PrintsNote, PrintsNoteIn, PrintsNotes, Trailer, after_notes, rest_notes, frame_notes, has_zero}
use Rattle.pcard_explain.specs.Places.{path_after}
use Rattle.pcard_explain.specs.Rows.{PrintsLine, PrintsLineIn, PrintsLines}
use Rattle.pcard_explain.specs.Told.{object_text, told_text}
use Rattle.pcard_explain.specs.declared.layout.Layout.{Layout}

-- The lines `seen` and then `lines`, the last line first.
abbrev pub seen_after : List Line → List Line → List Line
seen_after seen [] = seen
seen_after seen (line ∷ lines) = seen_after (line ∷ seen) lines

-- One more line comes first in `seen_after`.
pub seen_more : (seen lines : List Line) (line : Line) → seen_after seen (lines ++ line ∷ []) ≡ line ∷ seen_after seen lines
seen_more seen [] line = refl
seen_more seen (x ∷ xs) line = seen_more (x ∷ seen) xs line

-- A row at `offset n`, which is n or the greatest `u64`, is the row at n.
pub line_at : (layout : Layout) (n : ℕ) (path : List ℕ) (line : Line) (old new : Option (List ℕ)) → PrintsLine layout (offset n) path line old new
    → PrintsLine layout n path line old new
line_at layout n path line old new h =
    by_notation layout.notation h where
      same : min (offset n) (2 ^ 64 - 1) ≡ offset n
      same = omega arith

      by_notation : (notation : Notation) → PrintsLineIn notation layout (offset n) path line old new → PrintsLineIn notation layout n path line old new
      by_notation Text h = rw same at h
      by_notation Json h = rw same at h

-- If nothing and then a row is printed, the row is printed.
after_nothing : (layout : Layout) (n : ℕ) (path : List ℕ) (line : Line) (old mid new : Option (List ℕ)) → Appends old mid [] → PrintsLine layout n path line mid new
    → PrintsLine layout n path line old new
after_nothing layout n path line old mid new none h = by_notation layout.notation h where
  by_notation : (notation : Notation) → PrintsLineIn notation layout n path line mid new → PrintsLineIn notation layout n path line old new
  by_notation Text h = if_some_weaken (told_text line) _ _ (λ text r. (r.0, r.1, Appends-trans old mid new [] r.0 none r.2)) h
  by_notation Json h = (h.0, h.1, Appends-trans old mid new [] (object_text (codes "at") n line.bytes.now (field_member path) h.0) none h.2)

-- If the rows of some lines are printed, and then that of one more line, the rows of all of them are printed.
pub lines_more : (layout : Layout) (n : ℕ) (seen lines : List Line) (line : Line) (old mid new : Option (List ℕ)) → PrintsLines layout n seen lines old mid
    → PrintsLine layout (n + length (bytes_of lines)) (plain_text (path_after (seen_after seen lines) line)) line mid new
    → PrintsLines layout n seen (lines ++ line ∷ []) old new
lines_more layout n seen [] line old mid new h k =
    let none : n + 0 ≡ n = omega arith in
    (new, after_nothing layout n (plain_text (path_after seen line)) line old mid new h (rw none at k), Appends-nil new)
lines_more layout n seen (x ∷ xs) line old mid new h k =
    let on : n + length (x.bytes.now ++ bytes_of xs) ≡ (n + length x.bytes.now) + length (bytes_of xs) =
    omega (arith, length-append x.bytes.now (bytes_of xs)) in
    (h.0, h.1, lines_more layout (n + length x.bytes.now) (x ∷ seen) xs line h.0 mid new h.2 (rw on at k))

-- ---- notes

-- If two offsets are the same as `offset` counts them, a row at one is a row at the other.
note_at : (layout : Layout) (n m : ℕ) (bytes : List ℕ) (note : Note) (old new : Option (List ℕ)) → offset n ≡ offset m → PrintsNote layout n bytes note old new
    → PrintsNote layout m bytes note old new
note_at layout n m bytes note old new same h = by_notation layout.notation h where
  by_notation : (notation : Notation) → PrintsNoteIn notation layout n bytes note old new → PrintsNoteIn notation layout m bytes note old new
  by_notation Text h = rw same at h
  by_notation Json h = rw same at h

-- The same for the row of the bytes after a value.
pub after_at : (layout : Layout) (n m : ℕ) (bytes : List ℕ) (old new : Option (List ℕ)) → offset n ≡ offset m → PrintsNotes layout (after_notes n bytes) old new
    → PrintsNotes layout (after_notes m bytes) old new
after_at layout n m [] old new same h = h
after_at layout n m (b ∷ bytes) old new same h = (h.0, note_at layout n m (b ∷ bytes) after old h.0 same h.1, h.2)

-- The rows of a checksum and of the bytes after it, at `offset n`, are those at n.
pub rest_at : (layout : Layout) (trailer : Option Trailer) (n : ℕ) (bytes : List ℕ) (old new : Option (List ℕ)) → PrintsNotes layout (rest_notes trailer (offset n) bytes) old new
    → PrintsNotes layout (rest_notes trailer n bytes) old new
rest_at layout None n bytes old new h = after_at layout (offset n) n bytes old new (omega arith) h
rest_at layout (Some t) n bytes old new h =
    let sum = take t.size bytes in
    (h.0, note_at layout (offset n) n sum (checksum t.name) old h.0 (omega arith) h.1, after_at layout (offset n + length sum) (n + length sum) (drop t.size bytes) h.0 new (omega arith) h.2)

-- ---- frames

-- The bytes of a frame from an index on begin with the byte at it.
next_byte : (frame : List ℕ) (at : ℕ) → at < length frame → drop at frame ≡ get_or frame at 0 ∷ drop (at + 1) frame
next_byte frame at low = rw (add-one at) (drop-cons frame at 0 low)

-- While bytes of a group are left, the next byte has no row.
pub in_group : (at left b : ℕ) (bytes : List ℕ) → 0 < left → frame_notes at left (b ∷ bytes) ≡ frame_notes (at + 1) (left - 1) bytes
in_group at left b bytes some =
    let more : nat_eq left 0 ≡ false = ne_eqb left 0 (λ none. omega (arith, none, some)) in
    ap (λ (t : Bool). if t then record { at = at; bytes = b ∷ []; note = code b (has_zero b (length bytes)) } ∷ frame_notes (at + 1) (b - 1) bytes else frame_notes (at + 1) (left - 1) bytes) more

-- While bytes of a group are left, the rows of a frame from index `at` on are those from the next index on.
pub group_step : (frame : List ℕ) (at left : ℕ) → at < length frame → 0 < left → frame_notes at left (drop at frame) ≡ frame_notes (at + 1) (left - 1) (drop (at + 1) frame)
group_step frame at left low some = ap (λ (bytes : List ℕ). frame_notes at left bytes) (next_byte frame at low) ∙ in_group at left (get_or frame at 0) (drop (at + 1) frame) some

-- If no byte of a group is left, the rows of a frame from index `at` on are that of the code byte there, and then those after it.
pub code_step : (frame : List ℕ) (at left b : ℕ) → at < length frame → left ≡ 0 → b ≡ get_or frame at 0
    → frame_notes at left (drop at frame)
    ≡ record { at = at; bytes = b ∷ []; note = code b (has_zero b (length frame - at - 1)) } ∷ frame_notes (at + 1) (b - 1) (drop (at + 1) frame)
code_step frame at left b low none is =
    let bytes = drop (at + 1) frame in
    let count : length bytes ≡ length frame - at - 1 = omega (arith, length-drop (at + 1) frame) in
    ap (λ (bs : List ℕ). frame_notes at left bs) (next_byte frame at low ∙ ap (λ (x : ℕ). x ∷ bytes) (sym is)) ∙ ap (λ (n : ℕ). frame_notes at n (b ∷ bytes)) none
    ∙ ap (λ (n : ℕ). record { at = at; bytes = b ∷ []; note = code b (has_zero b n) } ∷ frame_notes (at + 1) (b - 1) bytes) count
