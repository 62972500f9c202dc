-- Laws of every type: its encodings are prefix-free, and its trees are well formed.
use Rattle.std.proofs.Common.{ℕ, zero, suc, inl, inr, refl}
use Rattle.postcard_wire.specs.Tree.{Tree, IsWidth}
use Rattle.postcard_wire.specs.Reading.{IsByte, IsNum, IsInt, IsDelimited, AreDelimited, ReadsWellFormed, PartsWellFormed}
use Rattle.postcard_wire.proofs.Delimited as delimited
use Rattle.postcard_wire.proofs.WellFormed as formed
use Rattle.postcard_schema.specs.declared.leaf.Integer.{Integer}
use Rattle.postcard_schema.specs.declared.leaf.Integer.TheVariants.{U8, U16, U32, U64, U128, I8, I16, I32, I64, I128}
use Rattle.postcard_schema.specs.declared.leaf.Leaf.{Leaf}
use Rattle.postcard_schema.specs.declared.leaf.Leaf.TheVariants as leaves
use Rattle.postcard_schema.specs.Leaves.{float_size, size_of}
use Rattle.postcard_schema.specs.Meaning.{MessageType, MessageTypes, leaf, option, seq, array, group, choice, no_types, then_type, integer_reads, leaf_reads, reads, reads_all, reads_at}

-- What holds of bytes, and of numbers of each width, holds of the trees of each type of integers.
pub by_integer : (P : (Tree → Type 0) → Type 0) → P IsByte → ((w : ℕ) → IsWidth w → P (IsNum w)) → ((w : ℕ) → IsWidth w → P (IsInt w))
    → (i : Integer) → P (integer_reads i)
by_integer P byte num int U8 = byte
by_integer P byte num int U16 = num 16 (inl refl)
by_integer P byte num int U32 = num 32 (inr (inl refl))
by_integer P byte num int U64 = num 64 (inr (inr (inl refl)))
by_integer P byte num int U128 = num 128 (inr (inr (inr refl)))
by_integer P byte num int I8 = byte
by_integer P byte num int I16 = int 16 (inl refl)
by_integer P byte num int I32 = int 32 (inr (inl refl))
by_integer P byte num int I64 = int 64 (inr (inr (inl refl)))
by_integer P byte num int I128 = int 128 (inr (inr (inr refl)))

-- The encodings of a type without parts are prefix-free.
leaf_delimited : (l : Leaf) → IsDelimited (leaf_reads l)
leaf_delimited leaves.Bool = delimited.boolean_delimited
leaf_delimited (leaves.Integer i) = by_integer IsDelimited delimited.byte_delimited (λ w wide. delimited.num_delimited w)
    (λ w wide. delimited.int_delimited w) i
leaf_delimited (leaves.Float f) = delimited.array_delimited (float_size f) _ delimited.byte_delimited
leaf_delimited leaves.Char = delimited.char_delimited
leaf_delimited leaves.Str = delimited.text_delimited
leaf_delimited leaves.Bytes = delimited.seq_delimited _ delimited.byte_delimited
leaf_delimited (leaves.Fixed order i) = delimited.array_delimited (size_of i) _ delimited.byte_delimited

mutual
  pub type_delimited : (t : MessageType) → IsDelimited (reads t)
  type_delimited (leaf l) = leaf_delimited l
  type_delimited (option t) = delimited.option_delimited (reads t) (type_delimited t)
  type_delimited (seq t) = delimited.seq_delimited (reads t) (type_delimited t)
  type_delimited (array n t) = delimited.array_delimited n (reads t) (type_delimited t)
  type_delimited (group ts) = delimited.group_delimited (reads_all ts) (types_delimited ts)
  type_delimited (choice ts) = delimited.variant_delimited (reads_at ts) (variants_delimited ts)

  types_delimited : (ts : MessageTypes) → AreDelimited (reads_all ts)
  types_delimited no_types = delimited.end_delimited
  types_delimited (then_type t ts) = delimited.then_delimited (reads t) (reads_all ts) (type_delimited t) (types_delimited ts)

  variants_delimited : (ts : MessageTypes) (i : ℕ) → IsDelimited (reads_at ts i)
  variants_delimited no_types i = delimited.none_delimited
  variants_delimited (then_type t ts) zero = type_delimited t
  variants_delimited (then_type t ts) (suc i) = variants_delimited ts i

-- The trees of a type without parts are well formed.
leaf_well_formed : (l : Leaf) → ReadsWellFormed (leaf_reads l)
leaf_well_formed leaves.Bool = formed.boolean_well_formed
leaf_well_formed (leaves.Integer i) = by_integer ReadsWellFormed formed.byte_well_formed formed.num_well_formed formed.int_well_formed i
leaf_well_formed (leaves.Float f) = formed.array_well_formed (float_size f) _ formed.byte_well_formed
leaf_well_formed leaves.Char = formed.char_well_formed
leaf_well_formed leaves.Str = formed.text_well_formed
leaf_well_formed leaves.Bytes = formed.seq_well_formed _ formed.byte_well_formed
leaf_well_formed (leaves.Fixed order i) = formed.array_well_formed (size_of i) _ formed.byte_well_formed

mutual
  pub type_well_formed : (t : MessageType) → ReadsWellFormed (reads t)
  type_well_formed (leaf l) = leaf_well_formed l
  type_well_formed (option t) = formed.option_well_formed (reads t) (type_well_formed t)
  type_well_formed (seq t) = formed.seq_well_formed (reads t) (type_well_formed t)
  type_well_formed (array n t) = formed.array_well_formed n (reads t) (type_well_formed t)
  type_well_formed (group ts) = formed.group_well_formed (reads_all ts) (types_well_formed ts)
  type_well_formed (choice ts) = formed.variant_well_formed (reads_at ts) (variants_well_formed ts)

  types_well_formed : (ts : MessageTypes) → PartsWellFormed (reads_all ts)
  types_well_formed no_types = formed.end_well_formed
  types_well_formed (then_type t ts) = formed.then_well_formed (reads t) (reads_all ts) (type_well_formed t) (types_well_formed ts)

  variants_well_formed : (ts : MessageTypes) (i : ℕ) → ReadsWellFormed (reads_at ts i)
  variants_well_formed no_types i = λ t r. absurd r
  variants_well_formed (then_type t ts) zero = type_well_formed t
  variants_well_formed (then_type t ts) (suc i) = variants_well_formed ts i
