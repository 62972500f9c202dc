-- Types without parts as an enum without content: the index of each, and the type at each index.
use Rattle.std.proofs.Common.{refl}
use Rattle.std.specs.Prelude.{ℕ, ◌≡◌, ◌+◌, List, [], ◌∷◌, get_or}
use Rattle.postcard_schema.specs.declared.leaf.ByteOrder.TheVariants.{Big, Little}
use Rattle.postcard_schema.specs.declared.leaf.Float.TheVariants.{F32, F64}
use Rattle.postcard_schema.specs.declared.leaf.Integer.{Integer}
use Rattle.postcard_schema.specs.declared.leaf.Integer.TheVariants.{U8, U16, U32, U64, U128, I8, I16, I32, I64, I128}
use Rattle.postcard_schema.specs.declared.leaf.Leaf.{Leaf}
use Rattle.postcard_schema.specs.declared.leaf.Leaf.TheVariants as leaves

-- The place of a type of integers among the ten.
abbrev pub integer_index : Integer → ℕ
integer_index U8 = 0
integer_index U16 = 1
integer_index U32 = 2
integer_index U64 = 3
integer_index U128 = 4
integer_index I8 = 5
integer_index I16 = 6
integer_index I32 = 7
integer_index I64 = 8
integer_index I128 = 9

-- The index of a type without parts. Integers begin at 1, `LE<T>` at 16 and `BE<T>` at 26.
abbrev pub leaf_index : Leaf → ℕ
leaf_index leaves.Bool = 0
leaf_index (leaves.Integer i) = 1 + integer_index i
leaf_index (leaves.Float F32) = 11
leaf_index (leaves.Float F64) = 12
leaf_index leaves.Char = 13
leaf_index leaves.Str = 14
leaf_index leaves.Bytes = 15
leaf_index (leaves.Fixed Little i) = 16 + integer_index i
leaf_index (leaves.Fixed Big i) = 26 + integer_index i

-- The types in the order of their indices.
abbrev pub by_index : List Leaf
by_index =
    leaves.Bool
    ∷ leaves.Integer U8 ∷ leaves.Integer U16 ∷ leaves.Integer U32 ∷ leaves.Integer U64 ∷ leaves.Integer U128
    ∷ leaves.Integer I8 ∷ leaves.Integer I16 ∷ leaves.Integer I32 ∷ leaves.Integer I64 ∷ leaves.Integer I128
    ∷ leaves.Float F32 ∷ leaves.Float F64 ∷ leaves.Char ∷ leaves.Str ∷ leaves.Bytes
    ∷ leaves.Fixed Little U8 ∷ leaves.Fixed Little U16 ∷ leaves.Fixed Little U32 ∷ leaves.Fixed Little U64 ∷ leaves.Fixed Little U128
    ∷ leaves.Fixed Little I8 ∷ leaves.Fixed Little I16 ∷ leaves.Fixed Little I32 ∷ leaves.Fixed Little I64 ∷ leaves.Fixed Little I128
    ∷ leaves.Fixed Big U8 ∷ leaves.Fixed Big U16 ∷ leaves.Fixed Big U32 ∷ leaves.Fixed Big U64 ∷ leaves.Fixed Big U128
    ∷ leaves.Fixed Big I8 ∷ leaves.Fixed Big I16 ∷ leaves.Fixed Big I32 ∷ leaves.Fixed Big I64 ∷ leaves.Fixed Big I128
    ∷ []

-- The type at an index below 36, and `bool` at any other.
abbrev pub leaf_at : ℕ → Leaf
leaf_at i = get_or by_index i leaves.Bool

-- A leaf is found again by its index.
pub leaf_back : (l : Leaf) → leaf_at (leaf_index l) ≡ l
leaf_back leaves.Bool = refl
leaf_back (leaves.Integer U8) = refl
leaf_back (leaves.Integer U16) = refl
leaf_back (leaves.Integer U32) = refl
leaf_back (leaves.Integer U64) = refl
leaf_back (leaves.Integer U128) = refl
leaf_back (leaves.Integer I8) = refl
leaf_back (leaves.Integer I16) = refl
leaf_back (leaves.Integer I32) = refl
leaf_back (leaves.Integer I64) = refl
leaf_back (leaves.Integer I128) = refl
leaf_back (leaves.Float F32) = refl
leaf_back (leaves.Float F64) = refl
leaf_back leaves.Char = refl
leaf_back leaves.Str = refl
leaf_back leaves.Bytes = refl
leaf_back (leaves.Fixed Little U8) = refl
leaf_back (leaves.Fixed Little U16) = refl
leaf_back (leaves.Fixed Little U32) = refl
leaf_back (leaves.Fixed Little U64) = refl
leaf_back (leaves.Fixed Little U128) = refl
leaf_back (leaves.Fixed Little I8) = refl
leaf_back (leaves.Fixed Little I16) = refl
leaf_back (leaves.Fixed Little I32) = refl
leaf_back (leaves.Fixed Little I64) = refl
leaf_back (leaves.Fixed Little I128) = refl
leaf_back (leaves.Fixed Big U8) = refl
leaf_back (leaves.Fixed Big U16) = refl
leaf_back (leaves.Fixed Big U32) = refl
leaf_back (leaves.Fixed Big U64) = refl
leaf_back (leaves.Fixed Big U128) = refl
leaf_back (leaves.Fixed Big I8) = refl
leaf_back (leaves.Fixed Big I16) = refl
leaf_back (leaves.Fixed Big I32) = refl
leaf_back (leaves.Fixed Big I64) = refl
leaf_back (leaves.Fixed Big I128) = refl
