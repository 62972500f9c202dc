-- How bytes spell a tree: any spelling that is accepted, and the shortest one, which is written.
use Rattle.std.specs.Prelude.{◌≡◌, ℕ, ◌≤◌, Bool, true, false, List, [], ◌∷◌, ◌++◌, length, IsUtf8, encode_utf8}
use Rattle.postcard_wire.specs.Number.{SpellsNum, digits, zigzag}
use Rattle.postcard_wire.specs.Tree.{Tree, Trees, Byte, Boolean, Num, Int, Char, Text, Absent, Present, Group, Seq, Variant, NoTrees, Then, count}

-- The byte of a boolean: 1 for true, and 0 for false (wire format 1.0, "bool").
abbrev pub bool_byte : Bool → ℕ
bool_byte true = 1
bool_byte false = 0

-- The list p is a list of which First holds, followed by one of which Second holds.
abbrev pub Joins : List ℕ → (List ℕ → Type 0) → (List ℕ → Type 0) → Type 0
Joins p First Second = (x y : List ℕ) × First x × Second y × (p ≡ x ++ y)

-- The bytes u are UTF-8, at most four bytes, and begin with the character c. That more than the
-- character's own bytes are accepted is the behaviour of postcard 1.1.3, not of the wire format.
pub record BeginsWithChar (c : ℕ) (u : List ℕ) : Type 0 where
  pub few : length u ≤ 4
  pub utf8 : IsUtf8 u
  pub first : (rest : List ℕ) × (u ≡ encode_utf8 c ++ rest)

-- The bytes p spell the tree (wire format 1.0, one case for each kind of its data model).
abbrev mutual
  pub Spells : Tree → List ℕ → Type 0
  Spells (Byte b) p = p ≡ b ∷ []
  Spells (Boolean x) p = p ≡ bool_byte x ∷ []
  Spells (Num w n) p = SpellsNum w n p
  Spells (Int w z) p = SpellsNum w (zigzag z) p
  Spells (Char c) p = (u : List ℕ) × BeginsWithChar c u × Joins p (SpellsNum 64 (length u)) (λ y. y ≡ u)
  Spells (Text u) p = Joins p (SpellsNum 64 (length u)) (λ y. y ≡ u)
  Spells Absent p = p ≡ 0 ∷ []
  Spells (Present t) p = Joins p (λ x. x ≡ 1 ∷ []) (Spells t)
  Spells (Group ts) p = SpellsAll ts p
  Spells (Seq ts) p = Joins p (SpellsNum 64 (count ts)) (SpellsAll ts)
  Spells (Variant i t) p = Joins p (SpellsNum 32 i) (Spells t)

  -- The bytes p are a spelling of each tree of the row, joined in order.
  pub SpellsAll : Trees → List ℕ → Type 0
  SpellsAll NoTrees p = p ≡ []
  SpellsAll (Then t ts) p = Joins p (Spells t) (SpellsAll ts)

-- The canonical encoding of a tree (wire format 1.0, "canonicalization"): its spelling with the fewest
-- digits in each number, lengths and indices among them. No text follows the character of a Char.
abbrev mutual
  pub canonical : Tree → List ℕ
  canonical (Byte b) = b ∷ []
  canonical (Boolean x) = bool_byte x ∷ []
  canonical (Num w n) = digits n
  canonical (Int w z) = digits (zigzag z)
  canonical (Char c) = digits (length (encode_utf8 c)) ++ encode_utf8 c
  canonical (Text u) = digits (length u) ++ u
  canonical Absent = 0 ∷ []
  canonical (Present t) = 1 ∷ canonical t
  canonical (Group ts) = canonical_all ts
  canonical (Seq ts) = digits (count ts) ++ canonical_all ts
  canonical (Variant i t) = digits i ++ canonical t

  pub canonical_all : Trees → List ℕ
  canonical_all NoTrees = []
  canonical_all (Then t ts) = canonical t ++ canonical_all ts
