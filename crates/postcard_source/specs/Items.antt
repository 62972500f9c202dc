-- The items of a file, and the declarations of types among them.
use Rattle.std.specs.Prelude.{◌≡◌, ℕ, ◌+◌, ◌<◌, ◌≤◌, ◌⊎◌, Some, List, [], ◌∷◌, ◌++◌, codes, length, slice_get, All, Contains}
use Rattle.postcard_source.specs.declared.token.Token.{Token}
use Rattle.postcard_source.specs.declared.declaration.Declaration.{Declaration}
use Rattle.postcard_source.specs.declared.declaration.Kind.{Kind}
use Rattle.postcard_source.specs.declared.declaration.Kind.TheVariants.{Struct, Enum, Alias}
use Rattle.postcard_source.specs.Tokens.{Says, IsNameAt}

-- The word begins a declaration of this kind.
abbrev pub IsKeyword : List ℕ → Kind → Type 0
IsKeyword word Struct = word ≡ codes "struct"
IsKeyword word Enum = word ≡ codes "enum"
IsKeyword word Alias = word ≡ codes "type"

-- The token at index i ends an item: it is `;` or `}`, outside of all brackets.
abbrev pub EndsItem : List Token → ℕ → Type 0
EndsItem tokens i = (t : Token) × (slice_get tokens i ≡ Some t) × (t.depth ≡ 0) × (Says (codes ";") t ⊎ Says (codes "}") t)

-- An item begins at index i: it is the first, or the token before ends one.
abbrev pub BeginsItem : List Token → ℕ → Type 0
BeginsItem tokens i = (i ≡ 0) ⊎ ((j : ℕ) × (i ≡ j + 1) × EndsItem tokens j)

-- From index i on, the first token that ends an item is the one before index `end`.
abbrev pub IsItemEnd : List Token → ℕ → ℕ → Type 0
IsItemEnd tokens i end = (last : ℕ) × (end ≡ last + 1) × (i ≤ last) × EndsItem tokens last
    × ((k : ℕ) → i ≤ k → k < last → EndsItem tokens k → ⊥)

-- An item begins at index i with a keyword and a name, which declare d.
abbrev pub Declares : List Token → ℕ → Declaration → Type 0
Declares tokens i d = BeginsItem tokens i × ((keyword : Token) × (slice_get tokens i ≡ Some keyword) × IsKeyword keyword.text.now d.kind)
    × (slice_get tokens (i + 1) ≡ Some d.name) × IsNameAt tokens (i + 1)
    × (d.start ≡ i + 2) × IsItemEnd tokens d.start d.end

-- At index i an item declares a type with a new name, which is added, or none does.
abbrev pub ReadsItem : List Token → ℕ → List Declaration → List Declaration → Type 0
ReadsItem tokens i old new =
    (((d : Declaration) → Declares tokens i d → ⊥) × (new ≡ old))
    ⊎ ((d : Declaration) × Declares tokens i d × All (λ e. Says d.name.text.now e.name → ⊥) old × (new ≡ old ++ d ∷ []))

-- Each of the declarations is that of an item before index n.
abbrev pub AreDeclared : List Token → ℕ → List Declaration → Type 0
AreDeclared tokens n known = (d : Declaration) → Contains known d → (i : ℕ) × (i < n) × Declares tokens i d

-- Each declaration of an item before index n is one of them.
abbrev pub HasEach : List Token → ℕ → List Declaration → Type 0
HasEach tokens n known = (i : ℕ) → i < n
    → ((d : Declaration) × Contains known d × Declares tokens i d) ⊎ ((d : Declaration) → Declares tokens i d → ⊥)

-- No two declarations have the same name.
abbrev pub NamesDiffer : List Declaration → Type 0
NamesDiffer known = (d e : Declaration) → Contains known d → Contains known e → Says d.name.text.now e.name → d ≡ e

-- The declarations of the items before index n.
pub record AreDeclaredBefore (tokens : List Token) (n : ℕ) (known : List Declaration) : Type 0 where
  pub declared : AreDeclared tokens n known
  pub each : HasEach tokens n known
  pub differ : NamesDiffer known

-- The declarations of a file with these tokens.
abbrev pub AreDeclarations : List Token → List Declaration → Type 0
AreDeclarations tokens known = AreDeclaredBefore tokens (length tokens) known
