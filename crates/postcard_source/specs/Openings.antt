-- Declarations whose text begins with an opening bracket.
use Rattle.std.specs.Prelude.{◌≡◌, ℕ, ◌⊎◌, List, ◌∷◌, Contains}
use Rattle.postcard_source.specs.declared.token.Token.{Token}
use Rattle.postcard_source.specs.declared.declaration.Declaration.{Declaration}
use Rattle.postcard_source.specs.Tokens.{IsNameAt}
use Rattle.postcard_source.specs.Words.{IsText}
use Rattle.postcard_source.specs.Expands.{Spells}

-- The text begins with `(` or `{`.
abbrev pub Opens : List ℕ → Type 0
Opens text = (rest : List ℕ) × ((text ≡ 40 ∷ rest) ⊎ (text ≡ 123 ∷ rest))

-- The token after the name of d is no name, and what it stands for begins with `(` or `{`.
abbrev pub BeginsType : List Token → Declaration → Type 0
BeginsType tokens d = (IsNameAt tokens d.start → ⊥) × ((text : List ℕ) → IsText d.kind tokens d.start text → Opens text)

-- The text is what such a declaration stands for.
abbrev pub IsOpened : List Token → List Declaration → List ℕ → Type 0
IsOpened tokens known text = (d : Declaration) × Contains known d × BeginsType tokens d × Spells tokens known d d.end text
