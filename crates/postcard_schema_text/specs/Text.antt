-- Texts of type expressions as lists of bytes: their characters, blanks, signs and words.
use Rattle.std.specs.Prelude.{◌≡◌, ℕ, ◌^◌, ◌<◌, nat_eq, Bool, true, false, cond, not, ◌||◌, ◌⊎◌, List, [], ◌∷◌, ◌++◌, length, slice_index, bit_and}
use Rattle.std.specs.List.{count_by, AllPass}
use Rattle.std.specs.Char.{is_ascii_whitespace, is_ascii_alphanumeric, is_ascii_digit, is_ascii_uppercase}
use Rattle.postcard_schema_text.specs.Literals.{IsLiteral}

-- Whether a byte of UTF-8 is the first of a character, so not of the form 0b10xx_xxxx.
abbrev pub begins_character : ℕ → Bool
begins_character b = not (nat_eq (bit_and b 0xC0) 0x80)

-- The number of characters of a text in UTF-8: of the bytes that are the first of a character.
abbrev pub characters : List ℕ → ℕ
characters text = count_by begins_character text

-- The text is blanks alone, or empty. Blanks are the white space of ASCII.
abbrev pub AreBlank : List ℕ → Type 0
AreBlank text = AllPass is_ascii_whitespace text

-- The text is blanks, or none, and then a phrase of P.
abbrev pub Led : (List ℕ → Type 0) → List ℕ → Type 0
Led P text = (blanks : List ℕ) × (phrase : List ℕ) × AreBlank blanks × P phrase × (text ≡ blanks ++ phrase)

-- The text is a phrase of P and then a phrase of Q.
abbrev pub Then : (List ℕ → Type 0) → (List ℕ → Type 0) → List ℕ → Type 0
Then P Q text = (front : List ℕ) × (back : List ℕ) × P front × Q back × (text ≡ front ++ back)

-- The text is a phrase of P and then `rest`.
abbrev pub TakesPhrase : (List ℕ → Type 0) → List ℕ → List ℕ → Type 0
TakesPhrase P text rest = (front : List ℕ) × P front × (text ≡ front ++ rest)

-- The text is blanks, or none, and then the byte `sign`.
abbrev pub IsSign : ℕ → List ℕ → Type 0
IsSign sign text = Led (λ phrase. phrase ≡ sign ∷ []) text

-- The text is empty, or blanks and then the byte `sign`.
abbrev pub IsMaybe : ℕ → List ℕ → Type 0
IsMaybe sign text = (text ≡ []) ⊎ IsSign sign text

-- Whether a byte may be part of a word: a letter or a digit of ASCII, or `_`.
abbrev pub is_of_word : ℕ → Bool
is_of_word b = is_ascii_alphanumeric b || nat_eq b 95

-- The text is blanks, or none, and then `word`, whose bytes may all be part of a word.
abbrev pub IsWord : List ℕ → List ℕ → Type 0
IsWord word text = AllPass is_of_word word × Led (λ phrase. phrase ≡ word) text

-- The text without the blanks at its start.
abbrev pub unblank : List ℕ → List ℕ
unblank [] = []
unblank (b ∷ text) = cond (is_ascii_whitespace b) (unblank text) (b ∷ text)

-- The text is empty, or its first byte may not be part of a word.
abbrev pub EndsWord : List ℕ → Type 0
EndsWord [] = Unit {0}
EndsWord (b ∷ text) = is_of_word b ≡ false

-- The word may name a field or a lifetime: it isn't empty and doesn't begin with a digit.
abbrev pub IsIdentifier : List ℕ → Type 0
IsIdentifier word = (0 < length word) × (is_ascii_digit (slice_index word 0) ≡ false)

-- The word may name a variant: it begins with a capital letter.
abbrev pub IsVariantName : List ℕ → Type 0
IsVariantName word = (0 < length word) × (is_ascii_uppercase (slice_index word 0) ≡ true)

-- The lifetime that is next is taken, `'` and a name that ends there, and `rest` is left. Without a `'` all of the text is left.
abbrev pub TakesLifetime : List ℕ → List ℕ → Type 0
TakesLifetime text rest =
    (((after : List ℕ) → TakesPhrase (IsSign 39) text after → ⊥) × (rest ≡ text))
    ⊎ ((start : List ℕ) × (name : List ℕ) × IsIdentifier name × TakesPhrase (IsSign 39) text start × TakesPhrase (IsWord name) start rest × EndsWord rest)

-- The text is blanks alone, or empty, or its first byte after blanks passes the test.
abbrev pub GoesOnBy : (ℕ → Bool) → List ℕ → Type 0
GoesOnBy passes text = AreBlank text ⊎ ((sign : ℕ) × (after : List ℕ) × (passes sign ≡ true) × TakesPhrase (IsSign sign) text after)

-- The text is blanks, or none, and then a literal of the number n, below 2 ^ 64.
abbrev pub IsCount : ℕ → List ℕ → Type 0
IsCount n text = (word : List ℕ) × IsLiteral n word × (n < 2 ^ 64) × Led (λ phrase. phrase ≡ word) text
