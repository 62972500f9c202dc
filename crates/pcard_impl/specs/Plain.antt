-- The text that declarations are read from: the file without what stands between its marks.
use Rattle.std.specs.Prelude.{◌≡◌, ◌<◌, ◌==◌, ◌||◌, ltb, leb, if◌then◌else◌, ℕ, Bool, List, length, slice_index}

-- What a byte of the file stands for. A new line (10) and a byte outside of the marks stand for themselves, and another for a blank (32).
abbrev pub plain_byte : Bool → ℕ → ℕ
plain_byte is_outside byte = if byte == 10 then 10 else if is_outside then byte else 32

-- The text `plain` has what each byte of the file stands for. The bytes before index `start` and from index `end` on are outside of the
-- marks, and the others between them.
abbrev pub IsPlain : ℕ → ℕ → List ℕ → List ℕ → Type 0
IsPlain start end file plain = (length plain ≡ length file)
    × ((i : ℕ) → i < length file → slice_index plain i ≡ plain_byte (ltb i start || leb end i) (slice_index file i))
