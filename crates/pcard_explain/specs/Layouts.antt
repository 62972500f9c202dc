-- Rows of text: an offset, bytes in hexadecimal, and a description of them.
use Rattle.std.specs.Prelude.{◌≡◌, ℕ, ◌+◌, ◌*◌, ◌-◌, ◌≤◌, ◌⊎◌, min, max, nat_le, nat_lt, Bool, false, if◌then◌else◌, replicate, List, [], ◌∷◌, ◌++◌, length, take, drop, codes, Option}
use Rattle.std.specs.List.{flat_map}
use Rattle.std.specs.Int.{w64, to_be_bytes}
use Rattle.std.specs.Io.KnownBytes.{Appends}
use Rattle.hex.specs.Hex.{encode_lower}
use Rattle.postcard_explain.specs.Explained.{bytes_of}
use Rattle.postcard_explain.specs.declared.line.Line.{Line}
use Rattle.pcard_print.specs.Lines.{offset}
use Rattle.pcard_print.specs.declared.notation.Notation.{Notation}
use Rattle.pcard_explain.specs.declared.layout.Layout.{Layout}

-- ---- layouts

-- The number of bytes in which offsets up to n are printed: 1, 2, 4 or 8. The bounds are 2^8, 2^16 and 2^32.
abbrev pub offset_size : ℕ → ℕ
offset_size n = if nat_lt n 256 then 1 else if nat_lt n 65536 then 2 else if nat_lt n 4294967296 then 4 else 8

-- The number of bytes of the longest of some lines.
abbrev pub longest_of : List Line → ℕ
longest_of [] = 0
longest_of (line ∷ lines) = max (length line.bytes.now) (longest_of lines)

-- The layout of the rows of lines: their offsets have the number of digits of the offset after the last line.
abbrev pub rows_layout : Notation → Bool → List Line → Layout
rows_layout notation all lines = record { notation = notation; offset = offset_size (offset (length (bytes_of lines))); longest = longest_of lines; all = all }

-- ---- rows

-- A byte in hexadecimal digits, with a blank after it.
abbrev pub spaced_byte : ℕ → List ℕ
spaced_byte b = encode_lower (b ∷ []) ++ 32 ∷ []

-- Bytes as digits, with a blank after each byte.
abbrev pub spaced : List ℕ → List ℕ
spaced bytes = flat_map spaced_byte bytes

-- The bytes of a row: all, or of more than eight bytes the first eight and `.. `.
abbrev pub bytes_text : Layout → List ℕ → List ℕ
bytes_text layout bytes = if layout.all then spaced bytes else if nat_le (length bytes) 8 then spaced bytes else spaced (take 8 bytes) ++ codes ".. "

-- The offset of a row, in hexadecimal digits.
abbrev pub offset_text : Layout → ℕ → List ℕ
offset_text layout at = encode_lower (drop (8 - layout.offset) (to_be_bytes w64 (offset at)))

-- The number of blanks between n bytes and the text of a row: three for each byte fewer than in the longest row, one, and two for each
-- level of depth. Bytes count up to nine (eight and `.. `), and levels up to twelve.
abbrev pub blanks_of : Layout → ℕ → ℕ → ℕ
blanks_of layout depth n = 3 * min layout.longest 9 - 3 * min n 9 + 1 + 2 * min depth 12

-- What a row has before its text: the offset, the bytes, and blanks.
abbrev pub head_text : Layout → ℕ → ℕ → List ℕ → List ℕ
head_text layout at depth bytes =
    offset_text layout at ++ (codes "  " ++ (bytes_text layout bytes ++ replicate (blanks_of layout depth (length bytes)) 32))

-- What a row shows of a text: all of it, or, if rows may be cut, a prefix of it and `..`.
abbrev pub IsCut : Layout → List ℕ → List ℕ → Type 0
IsCut layout text shown =
    (shown ≡ text) ⊎ ((layout.all ≡ false) × ((front : List ℕ) × (back : List ℕ) × (text ≡ front ++ back) × (shown ≡ front ++ codes "..")))

-- The row of bytes at this offset and depth, with this text. If rows may be cut, the text may be, and the row has at most 81 bytes: 80
-- and its line feed.
abbrev pub IsRow : Layout → ℕ → ℕ → List ℕ → List ℕ → List ℕ → Type 0
IsRow layout at depth bytes text row =
    (shown : List ℕ) × IsCut layout text shown × (row ≡ head_text layout at depth bytes ++ (shown ++ 10 ∷ []))
    × (layout.all ≡ false → length row ≤ 81)

-- A row is printed: its head, and its text, which may be cut.
abbrev pub PrintsRow : Layout → ℕ → ℕ → List ℕ → List ℕ → Option (List ℕ) → Option (List ℕ) → Type 0
PrintsRow layout at depth bytes text old new = (row : List ℕ) × IsRow layout at depth bytes text row × Appends old new row
