-- The bytes of a pasted text of hexadecimal digits, as `xxd` and `hexdump -C` print them too. A text is lines, and a line is words.
use Rattle.std.specs.Prelude.{◌≡◌, ◌==◌, ◌⊎◌, ℕ, ◌+◌, ◌-◌, min, nat_eq, nat_le, Bool, true, not, ◌&&◌, ◌||◌, if◌then◌else◌, List, [], ◌∷◌, ◌++◌, length, take, drop, codes, Ok, IsErr}
use Rattle.std.specs.List.{starts_with, slice_split, list_all, list_any, position_or_len}
use Rattle.std.specs.Char.{is_ascii_hexdigit, is_ascii_whitespace}
use Rattle.hex.specs.Hex.{decode_of}
use Rattle.postcard_schema_text.specs.Text.{characters, unblank}

-- ---- parts in a row

-- The parts denote these bytes, one part after another. `Is` says which bytes a part denotes.
abbrev pub AreBytesOf : (List ℕ → List ℕ → Type 0) → List (List ℕ) → List ℕ → Type 0
AreBytesOf Is [] bytes = bytes ≡ []
AreBytesOf Is (part ∷ parts) bytes =
    (front : List ℕ) × (rest : List ℕ) × Is part front × AreBytesOf Is parts rest × (bytes ≡ front ++ rest)

-- The parts are written with a byte between each two. The first part that denotes no bytes is wrong at index `n` of the whole text.
-- `IsWrong` says at which index a part is wrong.
abbrev pub IsWrongAt : (List ℕ → List ℕ → Type 0) → (List ℕ → ℕ → Type 0) → List (List ℕ) → ℕ → Type 0
IsWrongAt Is IsWrong [] n = ⊥
IsWrongAt Is IsWrong (part ∷ parts) n =
    IsWrong part n
    ⊎ ((front : List ℕ) × (m : ℕ) × Is part front × (n ≡ length part + 1 + m) × IsWrongAt Is IsWrong parts m)

-- ---- words

-- Whether a byte stands between words: white space of ASCII, a colon (58), a comma (44) or a hyphen (45).
abbrev pub is_separator : ℕ → Bool
is_separator b = is_ascii_whitespace b || (b == 58 || (b == 44 || b == 45))

-- The words of a text: the parts between its separators. Empty ones denote no bytes.
abbrev pub words_of : List ℕ → List (List ℕ)
words_of text = slice_split is_separator text

-- The digits of a word: if it begins with `0x`, what follows these 2 bytes, and else the whole word.
abbrev pub digits_of : List ℕ → List ℕ
digits_of word = if starts_with nat_eq word (codes "0x") then drop 2 word else word

-- The digits of a word denote these bytes.
abbrev pub IsWord : List ℕ → List ℕ → Type 0
IsWord word bytes = decode_of (digits_of word) ≡ Ok bytes

-- The index of the first byte that is no hexadecimal digit, or if all are digits, of the last one.
unfoldable pub wrong_digit : List ℕ → ℕ
wrong_digit digits = min (position_or_len (λ b. not (is_ascii_hexdigit b)) digits) (length digits - 1)

-- The digits of a word denote no bytes. The byte at index `n` is the first that is no digit, or the last of an odd number of digits.
abbrev pub IsWrongWord : List ℕ → ℕ → Type 0
IsWrongWord word n =
    IsErr (decode_of (digits_of word)) × (n ≡ length word - length (digits_of word) + wrong_digit (digits_of word))

-- ---- lines

-- The text before the first place where `mark` stands in it, or the whole text.
unfoldable pub up_to : List ℕ → List ℕ → List ℕ
up_to mark [] = []
up_to mark (b ∷ text) = if starts_with nat_eq (b ∷ text) mark then [] else b ∷ up_to mark text

-- Whether a text begins with this number of hexadecimal digits.
unfoldable pub begins_with_digits : ℕ → List ℕ → Bool
begins_with_digits count text = nat_le count (length text) && list_all is_ascii_hexdigit (take count text)

-- Whether a line begins as those of `xxd` do: with eight digits, a colon and a blank.
unfoldable pub is_of_xxd : List ℕ → Bool
is_of_xxd line = begins_with_digits 8 line && starts_with nat_eq (drop 8 line) (codes ": ")

-- Whether a text begins with a blank, or is empty.
abbrev pub begins_blank : List ℕ → Bool
begins_blank [] = true
begins_blank (b ∷ text) = is_ascii_whitespace b

-- Whether a text begins with two digits, and then a blank or nothing.
unfoldable pub begins_with_byte : List ℕ → Bool
begins_with_byte text = begins_with_digits 2 text && begins_blank (drop 2 text)

-- Whether a line begins as those of `hexdump -C` do: with eight digits, two blanks, and a byte.
unfoldable pub is_of_hexdump : List ℕ → Bool
is_of_hexdump line = begins_with_digits 8 line && (starts_with nat_eq (drop 8 line) (codes "  ") && begins_with_byte (drop 10 line))

-- Whether a line is eight digits, and perhaps blanks after them, as the last line of `hexdump -C`.
unfoldable pub is_lone_offset : List ℕ → Bool
is_lone_offset line = begins_with_digits 8 line && list_all is_ascii_whitespace (drop 8 line)

-- The index in a line at which its bytes begin: after the 9 bytes of an offset with a colon and the blanks in a line of `xxd`, after
-- the 8 digits in one of `hexdump -C`, and else 0.
unfoldable pub start_of : List ℕ → ℕ
start_of line =
    if is_of_xxd line then length line - length (unblank (drop 9 line))
    else if is_of_hexdump line then 8
    else 0

-- The part of a line that has its bytes: without the offset before it, and the characters after it. In a `dump`, which is a text with
-- a line of `hexdump -C`, a line of eight digits alone is an offset, and has no bytes.
unfoldable pub column_of : Bool → List ℕ → List ℕ
column_of dump line =
    if is_of_xxd line then up_to (codes "  ") (unblank (drop 9 line))
    else if is_of_hexdump line then up_to (codes "|") (drop 8 line)
    else if dump && is_lone_offset line then []
    else line

-- A line denotes the bytes of its words.
abbrev pub IsLine : Bool → List ℕ → List ℕ → Type 0
IsLine dump line bytes = AreBytesOf IsWord (words_of (column_of dump line)) bytes

-- A line is wrong at index n, where the first of its words is wrong that denotes no bytes.
abbrev pub IsWrongLine : Bool → List ℕ → ℕ → Type 0
IsWrongLine dump line n =
    (m : ℕ) × (n ≡ start_of line + m) × IsWrongAt IsWord IsWrongWord (words_of (column_of dump line)) m

-- ---- texts

-- The lines of a text: the parts between its new lines, the bytes 10.
abbrev pub lines_of : List ℕ → List (List ℕ)
lines_of text = slice_split (λ b. b == 10) text

-- Whether a line of a text is one of `hexdump -C`.
unfoldable pub is_dump : List ℕ → Bool
is_dump text = list_any is_of_hexdump (lines_of text)

-- The text denotes these bytes.
abbrev pub SpellsBytes : List ℕ → List ℕ → Type 0
SpellsBytes text bytes = AreBytesOf (IsLine (is_dump text)) (lines_of text) bytes

-- The text denotes no bytes, and its first wrong character is that with number `n`, counted from 1.
abbrev pub IsWrongHex : List ℕ → ℕ → Type 0
IsWrongHex text n =
    ((bytes : List ℕ) → SpellsBytes text bytes → ⊥)
    × ((m : ℕ) × (n ≡ characters (take m text) + 1)
    × IsWrongAt (IsLine (is_dump text)) (IsWrongLine (is_dump text)) (lines_of text) m)
