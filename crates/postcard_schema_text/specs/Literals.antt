-- Which texts denote a number as the integer literals of Rust do, those without the name of a type at their end.
use Rattle.std.specs.Prelude.{◌≡◌, ◌≢◌, ℕ, ◌+◌, ◌*◌, ◌^◌, ◌≤◌, ◌⊎◌, Bool, cond, nat_eq, ◌||◌, List, [], ◌∷◌, slice_index}
use Rattle.std.specs.Char.{digit_value, is_digit}
use Rattle.std.specs.Str.Parse.{IsNumeral, digits_value}
use Rattle.postcard_schema_text.specs.declared.literal.LiteralError.{LiteralError}
use Rattle.postcard_schema_text.specs.declared.literal.LiteralError.TheVariants.{Malformed, TooLarge}

-- Whether a byte is `_`.
abbrev pub is_underscore : ℕ → Bool
is_underscore b = nat_eq b 95

-- The text without its `_`.
abbrev pub without_underscores : List ℕ → List ℕ
without_underscores [] = []
without_underscores (b ∷ text) = cond (is_underscore b) (without_underscores text) (b ∷ without_underscores text)

-- Without its `_` the text is digits of the radix, at least one, and they denote the number n. Leading zeros are allowed.
abbrev pub AreDigits : ℕ → ℕ → List ℕ → Type 0
AreDigits radix n text = IsNumeral radix (without_underscores text) × (n ≡ digits_value radix (without_underscores text))

-- The text is decimal digits that denote the number n. It doesn't begin with `_`.
abbrev pub IsDecimal : ℕ → List ℕ → Type 0
IsDecimal n text = (slice_index text 0 ≢ 95) × AreDigits 10 n text

-- The radix that a letter after `0` stands for: `b` for 2, `o` for 8 and `x` for 16. Any other stands for 0, which has no digits.
abbrev pub radix_of : ℕ → ℕ
radix_of letter = cond (nat_eq letter 98) 2 (cond (nat_eq letter 111) 8 (cond (nat_eq letter 120) 16 0))

-- The text is `0`, such a letter, and digits of its radix that denote the number n.
abbrev pub IsMarked : ℕ → List ℕ → Type 0
IsMarked n text = (letter : ℕ) × (digits : List ℕ) × AreDigits (radix_of letter) n digits × (text ≡ 48 ∷ letter ∷ digits)

-- The text denotes the number n.
abbrev pub IsLiteral : ℕ → List ℕ → Type 0
IsLiteral n text = IsDecimal n text ⊎ IsMarked n text

-- Why a text denotes no number below 2 ^ 128, where P says which numbers it denotes: it denotes none at all, or a greater one.
abbrev pub IsNoNumber : (ℕ → Type 0) → LiteralError → Type 0
IsNoNumber P Malformed = (n : ℕ) → P n → ⊥
IsNoNumber P TooLarge = (n : ℕ) × P n × (2 ^ 128 ≤ n)

-- The number that the digits of n and then this byte denote: a digit is appended, and a `_` changes nothing.
abbrev pub with_byte : ℕ → ℕ → ℕ → ℕ
with_byte radix n b = cond (is_underscore b) n (n * radix + digit_value b)

-- Whether the byte is a digit of the radix or a `_`.
abbrev pub is_of_digits : ℕ → ℕ → Bool
is_of_digits radix b = is_underscore b || is_digit b radix
