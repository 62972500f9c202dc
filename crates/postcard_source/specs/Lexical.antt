-- How a file is read as tokens: its words, signs and literals, with gaps between them. The bytes: 10 is a new line, 34 is `"`,
-- 39 is `'`, 42 is `*`, 44 is `,`, 47 is `/`, 58 is `:`, 92 is `\`.
use Rattle.std.specs.Prelude.{◌≡◌, ◌≢◌, ℕ, ◌+◌, ◌<◌, true, ◌⊎◌, List, [], ◌∷◌, ◌++◌, length, slice_index, codes}
use Rattle.std.specs.Char.{is_ascii_whitespace}
use Rattle.postcard_source.specs.declared.token.Token.{Token}
use Rattle.postcard_source.specs.Steps.{Steps, StepsToZero}
use Rattle.postcard_source.specs.Tokens.{EndsWord, IsWordFront}
use Rattle.postcard_source.specs.Raw.{IsRaw, IsRawOpening}
use Rattle.postcard_source.specs.Words.{Where}

-- The text begins with these two bytes.
abbrev pub Begins : ℕ → ℕ → List ℕ → Type 0
Begins first second text = (after : List ℕ) × (text ≡ first ∷ second ∷ after)

-- A step in a comment. A state is the number of open comments and the text that is left: `*/` closes one, `/*` opens another.
abbrev pub CommentStep : ℕ × List ℕ → ℕ × List ℕ → Type 0
CommentStep s t =
    ((s.0 ≡ t.0 + 1) × (s.1 ≡ 42 ∷ 47 ∷ t.1))
    ⊎ (((s.0 + 1 ≡ t.0) × (s.1 ≡ 47 ∷ 42 ∷ t.1))
    ⊎ ((b : ℕ) × (s.0 ≡ t.0) × (s.1 ≡ b ∷ t.1) × (Begins 42 47 s.1 → ⊥) × (Begins 47 42 s.1 → ⊥)))

-- The text begins with a comment in `/*` and `*/`, and `rest` is left.
abbrev pub IsBlockComment : List ℕ → List ℕ → Type 0
IsBlockComment text rest = (inner : List ℕ) × (text ≡ 47 ∷ 42 ∷ inner) × StepsToZero CommentStep (1, inner) rest

-- The text begins with `//` and the letters of its line, and `rest` is left: nothing, or a new line.
abbrev pub IsLineComment : List ℕ → List ℕ → Type 0
IsLineComment text rest = (line : List ℕ) × (text ≡ 47 ∷ 47 ∷ line ++ rest) × ((k : ℕ) → k < length line → slice_index line k ≢ 10)
    × ((rest ≡ []) ⊎ ((after : List ℕ) × (rest ≡ 10 ∷ after)))

-- The text begins with a letter of a literal: a byte, or a `\` and a byte.
abbrev pub IsLetter : List ℕ → List ℕ → Type 0
IsLetter text rest = (b : ℕ) × (((b ≢ 92) × (text ≡ b ∷ rest)) ⊎ (text ≡ 92 ∷ b ∷ rest))

-- The text begins with letters up to the first quote, then has that quote, and `rest` is left.
abbrev pub IsQuoted : ℕ → List ℕ → List ℕ → Type 0
IsQuoted quote text rest = (last : List ℕ)
    × Steps (λ a b. IsLetter a b × ((after : List ℕ) → a ≡ quote ∷ after → ⊥)) text last × (last ≡ quote ∷ rest)

-- The text begins with a literal in these quotes, which is the token, and `rest` is left.
abbrev pub IsLiteral : ℕ → List ℕ → List ℕ → List ℕ → Type 0
IsLiteral quote token text rest = (inner : List ℕ) × (text ≡ quote ∷ inner) × IsQuoted quote inner rest × (text ≡ token ++ rest)

-- The text begins with this byte.
abbrev pub BeginsBy : ℕ → List ℕ → Type 0
BeginsBy b text = (rest : List ℕ) × (text ≡ b ∷ rest)

-- The text begins with a lifetime: `'` and a name, after which no `'` is. A comma after it is of it too. `rest` is left.
unfoldable pub IsLifetime : List ℕ → List ℕ → Type 0
IsLifetime text rest = (inner : List ℕ) × (name : List ℕ) × (after : List ℕ) × (text ≡ 39 ∷ inner) × IsWordFront name inner after × (0 < length name)
    × (BeginsBy 39 after → ⊥) × Where (BeginsBy 44 after) (after ≡ 44 ∷ rest) (rest ≡ after)

-- The text begins with a blank, and `rest` is left.
abbrev pub IsBlank : List ℕ → List ℕ → Type 0
IsBlank text rest = (b : ℕ) × (is_ascii_whitespace b ≡ true) × (text ≡ b ∷ rest)

-- The text begins with what stands between tokens, and `rest` is left.
unfoldable pub IsGap : List ℕ → List ℕ → Type 0
IsGap text rest = IsBlank text rest ⊎ (IsLineComment text rest ⊎ (IsLifetime text rest ⊎ IsBlockComment text rest))

-- The text begins with this byte of ASCII, which is the token, and `rest` is left.
abbrev pub IsSignAt : List ℕ → List ℕ → List ℕ → Type 0
IsSignAt token text rest = (b : ℕ) × (b < 128) × (token ≡ b ∷ []) × (text ≡ b ∷ rest)

-- The text begins with this token, which is `::`, a literal or a sign, and `rest` is left.
abbrev pub IsOtherAt : List ℕ → List ℕ → List ℕ → Type 0
IsOtherAt token text rest =
    Where (Begins 58 58 text) ((token ≡ codes "::") × (text ≡ 58 ∷ 58 ∷ rest))
    (Where (BeginsBy 34 text) (IsLiteral 34 token text rest)
    (Where (BeginsBy 39 text) (IsLiteral 39 token text rest)
    (IsSignAt token text rest)))

-- The text begins with this token, and `rest` is left. The token is a word, or if the text begins with no word, another token.
abbrev pub IsPlainAt : List ℕ → List ℕ → List ℕ → Type 0
IsPlainAt token text rest = (IsWordFront token text rest × (0 < length token)) ⊎ (EndsWord text × IsOtherAt token text rest)

-- The text begins with this token, and `rest` is left. The token is a raw literal, or if the text begins with none, another token.
unfoldable pub IsTokenAt : List ℕ → List ℕ → List ℕ → Type 0
IsTokenAt token text rest =
    Where ((hashes : List ℕ) × (inner : List ℕ) × IsRawOpening hashes text inner) (IsRaw token text rest) (IsPlainAt token text rest)

-- The token is an opening bracket.
abbrev pub IsOpening : List ℕ → Type 0
IsOpening word = (word ≡ codes "(") ⊎ ((word ≡ codes "[") ⊎ (word ≡ codes "{"))

-- The token is a closing bracket.
abbrev pub IsClosing : List ℕ → Type 0
IsClosing word = (word ≡ codes ")") ⊎ ((word ≡ codes "]") ⊎ (word ≡ codes "}"))

-- How many brackets are open around the word, and after it, where `depth` are open before. A bracket isn't around itself.
unfoldable pub HasDepth : List ℕ → ℕ → ℕ → ℕ → Type 0
HasDepth word depth around after =
    (IsOpening word × (around ≡ depth) × (after ≡ depth + 1))
    ⊎ ((IsClosing word × (depth ≡ around + 1) × (after ≡ around))
    ⊎ ((IsOpening word → ⊥) × (IsClosing word → ⊥) × (around ≡ depth) × (after ≡ depth)))

-- The text that is left, how many brackets are open, and the tokens so far.
abbrev pub Reading : Type 0
Reading = List ℕ × ℕ × List Token

-- A gap is read, or where none is, a token.
abbrev pub ReadStep : Reading → Reading → Type 0
ReadStep s t =
    (IsGap s.0 t.0 × (t.1 ≡ s.1) × (t.2 ≡ s.2))
    ⊎ ((k : Token) × ((rest : List ℕ) → IsGap s.0 rest → ⊥) × IsTokenAt k.text.now s.0 t.0
    × HasDepth k.text.now s.1 k.depth t.1 × (t.2 ≡ s.2 ++ k ∷ []))

-- The file is read as these tokens, and each bracket in it is closed.
abbrev pub IsRead : List ℕ → List Token → Type 0
IsRead file tokens = Steps ReadStep (file, 0, []) ([], 0, tokens)
