-- When a size is the least of a set of encodings: none is shorter, and one is as short.
use Rattle.std.specs.Prelude.{◌≡◌, ℕ, ◌^◌, ◌<◌, ◌≤◌, min, Option, Some, None}
use Rattle.postcard_wire.specs.Tree.{Tree, Trees, Variant}
use Rattle.postcard_max.specs.Limits.{tree_len, trees_len}
use Rattle.postcard_schema.specs.Leaves.{float_size, size_of}
use Rattle.postcard_schema.specs.declared.leaf.Leaf.{Leaf}
use Rattle.postcard_schema.specs.declared.leaf.Leaf.TheVariants.{Float, Char, Fixed}

-- By the measure, n is the least number of bytes of what is in the set, and it fits 64 bits.
pub record HasLeast {X : Type 0} (measure : X → ℕ) (n : ℕ) (has : X → Type 0) : Type 0 where
  -- It fits 64 bits.
  pub fits : n < 2 ^ 64
  -- Nothing in the set has fewer bytes.
  pub none_shorter : (x : X) → has x → n ≤ measure x
  -- Something in the set has n bytes.
  pub reached : (x : X) × has x × (measure x ≡ n)

-- The size is the least of the set, by the measure. If it is none, each element has 2^64 bytes or more; there may be none.
abbrev pub IsLeast : {X : Type 0} → (X → ℕ) → Option ℕ → (X → Type 0) → Type 0
IsLeast {X} measure None has = (x : X) → has x → 2 ^ 64 ≤ measure x
IsLeast {X} measure (Some n) has = HasLeast measure n has

-- The same of the canonical encodings of trees, and of rows of trees.
abbrev pub IsLeastSize : Option ℕ → (Tree → Type 0) → Type 0
IsLeastSize = IsLeast tree_len

-- The size is the least of a set of rows of trees.
abbrev pub IsLeastOfRow : Option ℕ → (Trees → Type 0) → Type 0
IsLeastOfRow = IsLeast trees_len

-- The tree is a variant with this index, which takes at most 32 bits, and its content is of the set.
abbrev pub IsVariantAt : ℕ → (Tree → Type 0) → Tree → Type 0
IsVariantAt i content t = (s : Tree) × (t ≡ Variant i s) × (i < 2 ^ 32) × content s

-- The lesser of two sizes, one that is none left out.
abbrev pub lesser_of : Option ℕ → Option ℕ → Option ℕ
lesser_of None b = b
lesser_of (Some a) None = Some a
lesser_of (Some a) (Some b) = Some (min a b)

-- The least size of a type without parts. A float and a number of a fixed width have all their bytes. A character has a count and at least
-- one byte of UTF-8.
abbrev pub leaf_least : Leaf → ℕ
leaf_least (Float float) = float_size float
leaf_least Char = 2
leaf_least (Fixed order integer) = size_of integer
leaf_least l = 1
