-- Quoted texts and byte strings: which texts denote the bytes of a value.
use Rattle.std.specs.Prelude.{◌≡◌, ◌≢◌, ℕ, ◌+◌, ◌*◌, ◌<◌, ◌≤◌, ◌⊎◌, List, [], ◌∷◌, ◌++◌, length}
use Rattle.std.specs.List.{AllByRecursion, flat_map}
use Rattle.std.specs.Char.{IsScalar, digit_value, encode_utf8}
use Rattle.std.specs.Str.Parse.{IsNumeral, digits_value}
use Rattle.postcard_schema_text.specs.Text.{Then, IsSign, IsWord}

-- The byte that a letter after `\` stands for: `\n`, `\r`, `\t`, `\0`, `\\`, `\'` and `\"`.
abbrev pub StandsFor : ℕ → ℕ → Type 0
StandsFor letter byte =
    ((letter ≡ 110) × (byte ≡ 10))
    ⊎ (((letter ≡ 114) × (byte ≡ 13))
    ⊎ (((letter ≡ 116) × (byte ≡ 9))
    ⊎ (((letter ≡ 48) × (byte ≡ 0))
    ⊎ (((letter ≡ 92) × (byte ≡ 92))
    ⊎ (((letter ≡ 39) × (byte ≡ 39))
    ⊎ ((letter ≡ 34) × (byte ≡ 34)))))))

-- What follows a `\u`: `{`, one to six hexadecimal digits of either case, which are the code of the character c, and `}`.
abbrev pub IsCode : ℕ → List ℕ → Type 0
IsCode c text = (digits : List ℕ) × IsNumeral 16 digits × (length digits ≤ 6) × IsScalar c × (c ≡ digits_value 16 digits) × (text ≡ 123 ∷ digits ++ 125 ∷ [])

-- What follows a `\`: a letter that stands for a byte, or `u` and a code, which stands for a character's bytes.
abbrev pub IsEscape : List ℕ → List ℕ → Type 0
IsEscape held text =
    ((letter : ℕ) × (byte : ℕ) × StandsFor letter byte × (held ≡ byte ∷ []) × (text ≡ letter ∷ []))
    ⊎ ((c : ℕ) × (code : List ℕ) × IsCode c code × (held ≡ encode_utf8 c) × (text ≡ 117 ∷ code))

-- A piece of a quoted text, which stands for the bytes `held`: a byte other than the quote and `\`, or an escape.
abbrev pub IsPiece : ℕ → List ℕ → List ℕ → Type 0
IsPiece quote held text =
    ((byte : ℕ) × (byte ≢ quote) × (byte ≢ 92) × (held ≡ byte ∷ []) × (text ≡ byte ∷ []))
    ⊎ ((escape : List ℕ) × IsEscape held escape × (text ≡ 92 ∷ escape))

-- The text is pieces in a row, which stand for the bytes `held`, in order.
abbrev pub ArePieces : ℕ → List ℕ → List ℕ → Type 0
ArePieces quote held text = (pieces : List (List ℕ × List ℕ)) × AllByRecursion (λ p. IsPiece quote p.0 p.1) pieces
    × (held ≡ flat_map (λ p. p.0) pieces) × (text ≡ flat_map (λ p. p.1) pieces)

-- The text is blanks, or none, the quote, pieces that stand for the bytes `held`, and the quote again.
abbrev pub IsQuoted : ℕ → List ℕ → List ℕ → Type 0
IsQuoted quote held text = Then (IsSign quote) (Then (ArePieces quote held) (λ end. end ≡ quote ∷ [])) text

-- The text is two hexadecimal digits of either case for each byte, the high one first.
abbrev pub AreDigitsOf : List ℕ → List ℕ → Type 0
AreDigitsOf [] text = text ≡ []
AreDigitsOf (byte ∷ bytes) text = (high : ℕ) × (low : ℕ) × (rest : List ℕ) × (digit_value high < 16) × (digit_value low < 16)
    × (byte ≡ digit_value high * 16 + digit_value low) × AreDigitsOf bytes rest × (text ≡ high ∷ low ∷ rest)

-- The text is blanks, or none, and then `0x` and the digits of the bytes.
abbrev pub IsByteString : List ℕ → List ℕ → Type 0
IsByteString bytes text = (digits : List ℕ) × AreDigitsOf bytes digits × IsWord (48 ∷ 120 ∷ digits) text
