-- What the tokens of a file say.
use Rattle.std.specs.Prelude.{◌≡◌, ℕ, ◌+◌, ◌||◌, nat_eq, ltb, not, Bool, true, false, Some, List, [], ◌∷◌, ◌++◌, slice_get}
use Rattle.std.specs.Char.{is_ascii_alphabetic, is_ascii_alphanumeric}
use Rattle.std.specs.List.{AllPass, flat_map}
use Rattle.postcard_source.specs.declared.token.Token.{Token}

-- The token is this word or sign.
abbrev pub Says : List ℕ → Token → Type 0
Says word t = t.text.now ≡ word

-- The token at the index is this word or sign.
abbrev pub IsAt : List ℕ → List Token → ℕ → Type 0
IsAt word tokens i = (t : Token) × (slice_get tokens i ≡ Some t) × Says word t

-- The token before the index is this word or sign.
abbrev pub IsBefore : List ℕ → List Token → ℕ → Type 0
IsBefore word tokens i = (j : ℕ) × (i ≡ j + 1) × IsAt word tokens j

-- The text is empty, or its first byte doesn't pass.
abbrev pub EndsBy : (ℕ → Bool) → List ℕ → Type 0
EndsBy passes [] = Unit {0}
EndsBy passes (b ∷ text) = passes b ≡ false

-- The bytes of `front` pass and begin the text, and `rest` begins with no further one.
abbrev pub IsFrontBy : (ℕ → Bool) → List ℕ → List ℕ → List ℕ → Type 0
IsFrontBy passes front text rest = AllPass passes front × EndsBy passes rest × (text ≡ front ++ rest)

-- Whether a byte may be part of a word: a letter, a digit, `_`, or a byte of a character beyond ASCII.
abbrev pub is_of_word : ℕ → Bool
is_of_word b = (is_ascii_alphanumeric b || nat_eq b 95) || not (ltb b 128)

-- The text doesn't begin with a byte of a word.
abbrev pub EndsWord : List ℕ → Type 0
EndsWord text = EndsBy is_of_word text

-- The text begins with this word, which may be empty, and `rest` is left, which begins with no byte of a word.
abbrev pub IsWordFront : List ℕ → List ℕ → List ℕ → Type 0
IsWordFront word text rest = IsFrontBy is_of_word word text rest

-- The text begins with a letter, `_`, or a character beyond ASCII.
abbrev pub BeginsName : List ℕ → Type 0
BeginsName word = (first : ℕ) × (letters : List ℕ) × (word ≡ first ∷ letters)
    × (((is_ascii_alphabetic first || nat_eq first 95) || not (ltb first 128)) ≡ true)

-- The text is letters, digits, `_` and characters beyond ASCII, and begins with no digit.
abbrev pub IsName : List ℕ → Type 0
IsName word = AllPass is_of_word word × BeginsName word

-- The token at the index is a name.
abbrev pub IsNameAt : List Token → ℕ → Type 0
IsNameAt tokens i = (t : Token) × (slice_get tokens i ≡ Some t) × IsName t.text.now

-- The text of the words: each of them and a blank.
abbrev pub spelling : List Token → List ℕ
spelling ts = flat_map (λ t. t.text.now ++ 32 ∷ []) ts
