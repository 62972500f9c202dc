-- Which values some bytes encode, and with which values they don't begin.
use Rattle.std.specs.Prelude.{◌≡◌, ℕ, ◌^◌, ◌<◌, List, ◌∷◌, ◌++◌}
use Rattle.postcard_wire.specs.Number.{SpellsNum}
use Rattle.postcard_wire.specs.Tree.{Tree, Trees}
use Rattle.postcard_wire.specs.Spelling.{Spells, SpellsAll}
use Rattle.postcard_shape.specs.Lists.{AreRead}
use Rattle.postcard_schema.specs.declared.schema.Schema.{Schema}
use Rattle.postcard_schema.specs.Meaning.{MessageType, type_of, types_of, reads, reads_all}

-- The bytes encode a value of the type.
abbrev pub FrontSpells : MessageType → List ℕ → Type 0
FrontSpells t bytes = (tree : Tree) × reads t tree × Spells tree bytes

-- The bytes encode n values of the type, one after another.
abbrev pub SpellsEach : MessageType → ℕ → List ℕ → Type 0
SpellsEach t n bytes = (ts : Trees) × AreRead n (reads t) ts × SpellsAll ts bytes

-- The bytes encode a value of each schema, in order.
abbrev pub SpellsParts : List Schema → List ℕ → Type 0
SpellsParts ss bytes = (ts : Trees) × reads_all (types_of ss) ts × SpellsAll ts bytes

-- No prefix of the bytes encodes a value of the type.
abbrev pub HasNone : MessageType → List ℕ → Type 0
HasNone t bytes = (front rest : List ℕ) → bytes ≡ front ++ rest → FrontSpells t front → ⊥

-- No prefix of the bytes encodes a value of the schema.
abbrev pub HasNoFront : Schema → List ℕ → Type 0
HasNoFront schema = HasNone (type_of schema)

-- No prefix of the bytes encodes n values of the type, one after another.
abbrev pub HasNoRow : MessageType → ℕ → List ℕ → Type 0
HasNoRow t n bytes = (front rest : List ℕ) → bytes ≡ front ++ rest → SpellsEach t n front → ⊥

-- The bytes begin with neither of the bytes of an option.
abbrev pub HasNoFlag : List ℕ → Type 0
HasNoFlag bytes = (rest : List ℕ) → (bytes ≡ 0 ∷ rest → ⊥) × (bytes ≡ 1 ∷ rest → ⊥)

-- No prefix of the bytes encodes a count.
abbrev pub HasNoCount : List ℕ → Type 0
HasNoCount bytes = (n : ℕ) (front rest : List ℕ) → n < 2 ^ 64 → SpellsNum 64 n front → bytes ≡ front ++ rest → ⊥

-- No prefix of the bytes encodes the index of one of `count` variants.
abbrev pub HasNoIndex : ℕ → List ℕ → Type 0
HasNoIndex count bytes = (i : ℕ) (front rest : List ℕ) → i < count → i < 2 ^ 32 → SpellsNum 32 i front → bytes ≡ front ++ rest → ⊥
