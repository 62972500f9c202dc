-- Sets of trees, as types read them, and the law that makes them prefix-free: at most one front of
-- some bytes spells a tree of the set. The type tells where a message ends (wire format 1.0, "not a
-- self describing format").
use Rattle.std.specs.Prelude.{◌≡◌, ℕ, ◌<◌, ◌^◌, ◌⊎◌, Bool, List, ◌++◌, length, ℤ, IsUtf8}
use Rattle.std.specs.Char.{IsScalar}
use Rattle.postcard_wire.specs.Number.{InRange}
use Rattle.postcard_wire.specs.Tree.{Tree, Trees, Byte, Boolean, Num, Int, Char, Text, Absent, Present, Group, Seq, Variant, NoTrees, Then, count, WellFormed, AreWellFormed}
use Rattle.postcard_wire.specs.Spelling.{Spells, SpellsAll}

-- The encodings of the set are prefix-free: if two fronts of one list spell trees of the set, the
-- fronts are equal, and so are the trees.
abbrev pub IsDelimited : (Tree → Type 0) → Type 0
IsDelimited reads = (t s : Tree) (p q x y : List ℕ) → reads t → reads s → Spells t p → Spells s q → p ++ x ≡ q ++ y → (p ≡ q) × (t ≡ s)

-- The same of a set of trees in a row.
abbrev pub AreDelimited : (Trees → Type 0) → Type 0
AreDelimited reads = (ts ss : Trees) (p q x y : List ℕ) → reads ts → reads ss → SpellsAll ts p → SpellsAll ss q → p ++ x ≡ q ++ y → (p ≡ q) × (ts ≡ ss)

-- Every tree of the set is well formed.
abbrev pub ReadsWellFormed : (Tree → Type 0) → Type 0
ReadsWellFormed reads = (t : Tree) → reads t → WellFormed t

-- Every tree in every row of the set is well formed.
abbrev pub PartsWellFormed : (Trees → Type 0) → Type 0
PartsWellFormed reads = (ts : Trees) → reads ts → AreWellFormed ts

-- The tree is a byte.
abbrev pub IsByte : Tree → Type 0
IsByte t = (b : ℕ) × (t ≡ Byte b) × (b < 256)

-- The tree is a boolean.
abbrev pub IsBoolean : Tree → Type 0
IsBoolean t = (x : Bool) × (t ≡ Boolean x)

-- The tree is an unsigned number of w bits.
abbrev pub IsNum : ℕ → Tree → Type 0
IsNum w t = (n : ℕ) × (t ≡ Num w n) × (n < 2 ^ w)

-- The tree is a signed number of w bits.
abbrev pub IsInt : ℕ → Tree → Type 0
IsInt w t = (z : ℤ) × (t ≡ Int w z) × InRange w z

-- The tree is a character, a Unicode scalar value.
abbrev pub IsChar : Tree → Type 0
IsChar t = (c : ℕ) × (t ≡ Char c) × IsScalar c

-- The tree is a text: UTF-8 of fewer than 2 ^ 64 bytes.
abbrev pub IsText : Tree → Type 0
IsText t = (u : List ℕ) × (t ≡ Text u) × IsUtf8 u × (length u < 2 ^ 64)

-- The tree is an option: absent, or present with a tree of the set.
abbrev pub IsOption : (Tree → Type 0) → Tree → Type 0
IsOption reads t = (t ≡ Absent) ⊎ ((s : Tree) × (t ≡ Present s) × reads s)

-- The row has no trees.
abbrev pub IsEnd : Trees → Type 0
IsEnd ts = ts ≡ NoTrees

-- The row is a tree of the first set, and then a row of the second.
abbrev pub IsThen : (Tree → Type 0) → (Trees → Type 0) → Trees → Type 0
IsThen first rest ts = (s : Tree) × (ss : Trees) × (ts ≡ Then s ss) × first s × rest ss

-- The tree is a group whose parts are of the set, with no count before them: a tuple or a struct.
abbrev pub IsGroup : (Trees → Type 0) → Tree → Type 0
IsGroup parts t = (ts : Trees) × (t ≡ Group ts) × parts ts

-- Each tree of the row is of the set.
abbrev pub Each : (Tree → Type 0) → Trees → Type 0
Each reads NoTrees = Unit {0}
Each reads (Then t ts) = reads t × Each reads ts

-- The tree is a list of any number of trees of the set, with their count before them.
abbrev pub IsSeq : (Tree → Type 0) → Tree → Type 0
IsSeq reads t = (ts : Trees) × (t ≡ Seq ts) × (count ts < 2 ^ 64) × Each reads ts

-- The tree is an array of n trees of the set, with no count before them.
abbrev pub IsArray : ℕ → (Tree → Type 0) → Tree → Type 0
IsArray n reads t = (ts : Trees) × (t ≡ Group ts) × (count ts ≡ n) × Each reads ts

-- The tree is a variant of an enum, whose content is of the set of its index.
abbrev pub IsVariant : (ℕ → Tree → Type 0) → Tree → Type 0
IsVariant content t = (i : ℕ) × (s : Tree) × (t ≡ Variant i s) × (i < 2 ^ 32) × content i s
