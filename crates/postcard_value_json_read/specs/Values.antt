-- How far a string, an array or an object of JSON reaches, by its quotes and brackets alone.
use Rattle.std.specs.Prelude.{◌≡◌, ◌⊎◌, ℕ, zero, suc, List, [], ◌∷◌, ◌++◌, Bool, true, false, ◌==◌, ◌||◌}
use Rattle.std.specs.Char.{is_ascii_whitespace}

-- The bytes stand between two quotes: each quote is escaped. The argument says whether the first byte is.
abbrev pub AreQuoted : Bool → List ℕ → Type 0
AreQuoted false [] = Unit {0}
AreQuoted true [] = ⊥
AreQuoted false (b ∷ bs) = (b ≡ 34 → ⊥) × AreQuoted (b == 92) bs
AreQuoted true (b ∷ bs) = AreQuoted false bs

-- A string with what stands between its quotes, a bracket, or another byte.
pub data Piece : Type 0 where
  quoted : List ℕ → Piece
  bracket : ℕ → Piece
  other : ℕ → Piece

-- Whether a byte is `[` or `{`.
abbrev pub is_opening : ℕ → Bool
is_opening b = b == 91 || b == 123

-- Whether a byte is `]` or `}`.
abbrev pub is_closing : ℕ → Bool
is_closing b = b == 93 || b == 125

abbrev pub piece_bytes : Piece → List ℕ
piece_bytes (quoted inside) = 34 ∷ (inside ++ 34 ∷ [])
piece_bytes (bracket b) = b ∷ []
piece_bytes (other b) = b ∷ []

abbrev pub bytes : List Piece → List ℕ
bytes [] = []
bytes (p ∷ ps) = piece_bytes p ++ bytes ps

-- The last piece, and none before it, closes the outermost of n open brackets.
abbrev mutual
  pub Closes : ℕ → List Piece → Type 0
  Closes zero ps = ps ≡ []
  Closes (suc n) [] = ⊥
  Closes (suc n) (quoted inside ∷ ps) = AreQuoted false inside × Closes (suc n) ps
  Closes (suc n) (bracket b ∷ ps) = ((is_opening b ≡ true) × Closes (suc (suc n)) ps) ⊎ ((is_closing b ≡ true) × Closes n ps)
  Closes (suc n) (other b ∷ ps) = (b ≡ 34 → ⊥) × (is_opening b ≡ false) × (is_closing b ≡ false) × Closes (suc n) ps

-- The text is an array or an object.
abbrev pub IsNested : List ℕ → Type 0
IsNested text = (b : ℕ) × (ps : List Piece) × (is_opening b ≡ true) × Closes 1 ps × (text ≡ b ∷ bytes ps)

-- The text is a JSON string: quoted bytes between two double quotes.
abbrev pub IsString : List ℕ → Type 0
IsString text = (inside : List ℕ) × AreQuoted false inside × (text ≡ 34 ∷ (inside ++ 34 ∷ []))

-- The byte ends a number or a name.
abbrev pub ends_scalar : ℕ → Bool
ends_scalar b = is_ascii_whitespace b || (b == 44 || is_closing b)

-- The text has no byte that ends a number, `true`, `false` or `null`.
abbrev pub IsScalar : List ℕ → Type 0
IsScalar [] = Unit {0}
IsScalar (b ∷ bs) = (ends_scalar b ≡ false) × IsScalar bs

-- Nothing follows, or a byte that ends a number or a name.
abbrev pub EndsScalar : List ℕ → Type 0
EndsScalar [] = Unit {0}
EndsScalar (b ∷ bs) = ends_scalar b ≡ true

-- The text begins with no quote and no bracket that opens.
abbrev pub BeginsScalar : List ℕ → Type 0
BeginsScalar [] = ⊥
BeginsScalar (b ∷ bs) = (b ≡ 34 → ⊥) × (is_opening b ≡ false)

-- The text is a string, an array or an object, or a number or a name.
abbrev pub IsValue : List ℕ → Type 0
IsValue text = IsString text ⊎ (IsNested text ⊎ (IsScalar text × BeginsScalar text))

-- The text ends with `rest`.
abbrev pub IsEndOf : List ℕ → List ℕ → Type 0
IsEndOf text rest = (before : List ℕ) × (text ≡ before ++ rest)
