-- Numbers that are read and written many at a time.
use Rattle.std.specs.Prelude.{◌≡◌, ℕ, List, [], ◌∷◌}
use Rattle.postcard_wire.specs.Number.{digits}
use Rattle.postcard_wire.specs.Tree.{Tree}
use Rattle.postcard_wire.specs.Spelling.{Spells, canonical}
use Rattle.postcard_wire.specs.Words.{IsCut}
use Rattle.postcard_shape.specs.Shape.{Shape}

-- The bytes p spell a tree of the shape, and v is its value.
abbrev pub IsValue : {V : Type 0} → Shape V → List ℕ → V → Type 0
IsValue s p v = (t : Tree) × s.reads t × Spells t p × s.value t v

-- Each element is the value of the digits beside it.
abbrev pub AreValuesOf : {V : Type 0} → ℕ → Shape V → List ℕ → List V → Type 0
AreValuesOf w s [] [] = Unit {0}
AreValuesOf w s (d ∷ ds) (v ∷ vs) = ((p : List ℕ) → IsCut w p d → IsValue s p v) × AreValuesOf w s ds vs
AreValuesOf w s _ _ = ⊥

-- The value v fits, and it is written as the varint of the number n.
pub record IsVarintOf {V : Type 0} (s : Shape V) (n : ℕ) (v : V) : Type 0 where
  pub fits : s.fits v
  pub encoded : canonical (s.tree v) ≡ digits n
