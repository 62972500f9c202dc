-- A text of JSON with control characters as escapes.
use Rattle.std.specs.Prelude.{ℕ, ◌/◌, ◌%◌, List, [], ◌∷◌, Bool, cond, ◌&&◌, nat_lt, nat_le, flat_map}
use Rattle.std.specs.Char.{digit_char, encode_utf8}
use Rattle.std.specs.Str.{chars}

-- The escape of a character below U+0100.
abbrev pub unit_escape : ℕ → List ℕ
unit_escape c = 92 ∷ 117 ∷ 48 ∷ 48 ∷ digit_char (c / 16) ∷ digit_char (c % 16) ∷ []

-- Whether the character is one of U+007F to U+009F.
abbrev pub is_high_control : ℕ → Bool
is_high_control c = nat_le 127 c && nat_lt c 160

-- The escape of a character, or the character itself.
abbrev pub escaped_char : ℕ → List ℕ
escaped_char c = cond (is_high_control c) (unit_escape c) (encode_utf8 c)

-- The text with an escape for each of its characters U+007F to U+009F.
abbrev pub escaped : List ℕ → List ℕ
escaped text = flat_map escaped_char (chars text)
