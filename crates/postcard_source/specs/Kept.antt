-- Which tokens of a file are kept: those that are of no attribute, no visibility, and no path before a name.
use Rattle.std.specs.Prelude.{◌≡◌, ℕ, ◌+◌, ◌<◌, ◌≤◌, ◌⊎◌, Some, List, [], ◌∷◌, ◌++◌, codes, length, slice_get}
use Rattle.postcard_source.specs.declared.token.Token.{Token}
use Rattle.postcard_source.specs.Steps.{Steps}
use Rattle.postcard_source.specs.Tokens.{IsAt, IsBefore, IsNameAt}

-- After a `#`, an attribute goes on at index i with `[`, or with `!` and `[`. This bracket is at index b.
abbrev pub IsAttribute : List Token → ℕ → ℕ → Type 0
IsAttribute tokens i b =
    (IsAt (codes "[") tokens i × (b ≡ i))
    ⊎ (IsAt (codes "!") tokens i × IsAt (codes "[") tokens (i + 1) × (b ≡ i + 1))

-- At index i is `crate`, `self` or `super`.
abbrev pub IsLimit : List Token → ℕ → Type 0
IsLimit tokens i = IsAt (codes "crate") tokens i ⊎ (IsAt (codes "self") tokens i ⊎ IsAt (codes "super") tokens i)

-- At index i the bracket of the scope of a `pub` begins: `(crate)`, `(self)`, `(super)` or `(in ..)`.
abbrev pub IsScope : List Token → ℕ → Type 0
IsScope tokens i = IsAt (codes "(") tokens i
    × (IsAt (codes "in") tokens (i + 1) ⊎ (IsLimit tokens (i + 1) × IsAt (codes ")") tokens (i + 2)))

-- At index i is the `#` or the `pub` of an attribute or a scope, whose bracket is at index b.
abbrev pub HasBracket : List Token → ℕ → ℕ → Type 0
HasBracket tokens i b =
    (IsAt (codes "#") tokens i × IsAttribute tokens (i + 1) b)
    ⊎ (IsAt (codes "pub") tokens i × IsScope tokens (i + 1) × (b ≡ i + 1))

-- The bracket at index i ends before index j: the tokens between them, without the last one, are within it.
abbrev pub EndsBefore : List Token → ℕ → ℕ → Type 0
EndsBefore tokens i j = (opening : Token) × (closing : Token) × (last : ℕ) × (i < last) × (j ≡ last + 1)
    × (slice_get tokens i ≡ Some opening) × (slice_get tokens last ≡ Some closing) × (closing.depth ≤ opening.depth)
    × ((k : ℕ) (t : Token) → i < k → k < last → slice_get tokens k ≡ Some t → opening.depth < t.depth)

-- At index i is `<` before `>`, or `>` after `<`: lifetimes stood between them, or nothing.
abbrev pub IsEmptyAngle : List Token → ℕ → Type 0
IsEmptyAngle tokens i =
    (IsAt (codes "<") tokens i × IsAt (codes ">") tokens (i + 1))
    ⊎ (IsAt (codes ">") tokens i × IsBefore (codes "<") tokens i)

-- The token at index i is passed over alone: `pub`, `::`, a name before `::`, a comma before `>`, or an empty angle.
abbrev pub IsPassed : List Token → ℕ → Type 0
IsPassed tokens i = (IsAt (codes "pub") tokens i ⊎ IsAt (codes "::") tokens i)
    ⊎ ((IsNameAt tokens i × IsAt (codes "::") tokens (i + 1))
    ⊎ ((IsAt (codes ",") tokens i × IsAt (codes ">") tokens (i + 1)) ⊎ IsEmptyAngle tokens i))

-- A step from one state to the next. A state is the index that is read next, and the tokens that are kept so far.
abbrev pub KeepStep : List Token → ℕ × List Token → ℕ × List Token → Type 0
KeepStep tokens s u =
    ((b : ℕ) × HasBracket tokens s.0 b × EndsBefore tokens b u.0 × (u.1 ≡ s.1))
    ⊎ ((((b : ℕ) → HasBracket tokens s.0 b → ⊥) × IsPassed tokens s.0 × (u.0 ≡ s.0 + 1) × (u.1 ≡ s.1))
    ⊎ ((t : Token) × (slice_get tokens s.0 ≡ Some t) × ((b : ℕ) → HasBracket tokens s.0 b → ⊥) × (IsPassed tokens s.0 → ⊥)
    × (u.0 ≡ s.0 + 1) × (u.1 ≡ s.1 ++ t ∷ [])))

-- Of all tokens, these are kept.
abbrev pub AreKept : List Token → List Token → Type 0
AreKept tokens kept = (i : ℕ) × (length tokens ≤ i) × Steps (KeepStep tokens) (0, []) (i, kept)
