-- No name of a type without parts begins another: so the type can be recovered from a text that begins with its name.
use Rattle.std.proofs.Common.{◌≡◌, ℕ, Bool, true, false, cond, List, [], ◌∷◌, ◌++◌, refl, sym, ap, subst, ◌∙◌}
use Rattle.std.specs.Prelude.{nat_eq}
use Rattle.std.proofs.lemmas.List.{append_cancel_left}
use Rattle.postcard_schema.specs.declared.leaf.ByteOrder.TheVariants.{Little, Big}
use Rattle.postcard_schema.specs.declared.leaf.Float.TheVariants.{F32, F64}
use Rattle.postcard_schema.specs.declared.leaf.Integer.{Integer}
use Rattle.postcard_schema.specs.declared.leaf.Integer.TheVariants.{U8, U16, U32, U64, U128, I8, I16, I32, I64, I128}
use Rattle.postcard_schema.specs.declared.leaf.Leaf.{Leaf}
use Rattle.postcard_schema.specs.declared.leaf.Leaf.TheVariants as leaves
use Rattle.postcard_schema.specs.Leaves.{leaf_name}

-- Whether the text begins with the name.
abbrev begins : List ℕ → List ℕ → Bool
begins [] text = true
begins (c ∷ name) [] = false
begins (c ∷ name) (d ∷ text) = cond (nat_eq c d) (begins name text) false

abbrev with_integers : (Integer → Leaf) → List Leaf → List Leaf
with_integers make ls =
    make U8 ∷ make U16 ∷ make U32 ∷ make U64 ∷ make U128 ∷ make I8 ∷ make I16 ∷ make I32 ∷ make I64 ∷ make I128 ∷ ls

-- All types without parts.
abbrev all : List Leaf
all = leaves.Char ∷ leaves.Str ∷ leaves.Bytes ∷ leaves.Float F32 ∷ leaves.Float F64
    ∷ with_integers (λ i. leaves.Integer i) (with_integers (λ i. leaves.Fixed Little i) (with_integers (λ i. leaves.Fixed Big i) []))

-- The first of the types whose name begins the text, and else `bool`.
abbrev first : List Leaf → List ℕ → Leaf
first [] text = leaves.Bool
first (l ∷ ls) text = cond (begins (leaf_name l) text) l (first ls text)

read_back : (l : Leaf) (after : List ℕ) → first all (leaf_name l ++ after) ≡ l
read_back leaves.Bool after = refl
read_back leaves.Char after = refl
read_back leaves.Str after = refl
read_back leaves.Bytes after = refl
read_back (leaves.Float F32) after = refl
read_back (leaves.Float F64) after = refl
read_back (leaves.Integer U8) after = refl
read_back (leaves.Integer U16) after = refl
read_back (leaves.Integer U32) after = refl
read_back (leaves.Integer U64) after = refl
read_back (leaves.Integer U128) after = refl
read_back (leaves.Integer I8) after = refl
read_back (leaves.Integer I16) after = refl
read_back (leaves.Integer I32) after = refl
read_back (leaves.Integer I64) after = refl
read_back (leaves.Integer I128) after = refl
read_back (leaves.Fixed Little U8) after = refl
read_back (leaves.Fixed Little U16) after = refl
read_back (leaves.Fixed Little U32) after = refl
read_back (leaves.Fixed Little U64) after = refl
read_back (leaves.Fixed Little U128) after = refl
read_back (leaves.Fixed Little I8) after = refl
read_back (leaves.Fixed Little I16) after = refl
read_back (leaves.Fixed Little I32) after = refl
read_back (leaves.Fixed Little I64) after = refl
read_back (leaves.Fixed Little I128) after = refl
read_back (leaves.Fixed Big U8) after = refl
read_back (leaves.Fixed Big U16) after = refl
read_back (leaves.Fixed Big U32) after = refl
read_back (leaves.Fixed Big U64) after = refl
read_back (leaves.Fixed Big U128) after = refl
read_back (leaves.Fixed Big I8) after = refl
read_back (leaves.Fixed Big I16) after = refl
read_back (leaves.Fixed Big I32) after = refl
read_back (leaves.Fixed Big I64) after = refl
read_back (leaves.Fixed Big I128) after = refl

-- If two texts that begin with names of types are equal, the types are equal, and so is what follows the names.
pub same_leaf : (l m : Leaf) (x y : List ℕ) → leaf_name l ++ x ≡ leaf_name m ++ y → (l ≡ m) × (x ≡ y)
same_leaf l m x y e =
    let same : l ≡ m = sym (read_back l x) ∙ ap (first all) e ∙ read_back m y in
    (same, append_cancel_left (leaf_name m) x y (subst (λ k. leaf_name k ++ x ≡ leaf_name m ++ y) same e))
