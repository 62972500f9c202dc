-- A type and its schema: the type of the schema's messages, and the relation between the trees of both.
use Rattle.std.specs.Prelude.{ℕ, zero, suc, ⊤, List, [], ◌∷◌, ◌++◌}
use Rattle.postcard_wire.specs.Tree.{Tree, Trees}
use Rattle.postcard_wire.specs.Reading.{IsOption, IsSeq, IsArray, IsThen, IsGroup, IsVariant, IsEnd}
use Rattle.postcard_shape.specs.Cases.{case_reads}
use Rattle.std.proofs.Common.{◌≡◌, refl, ap, arith}
use Rattle.postcard_shape.specs.Enumerations.{IsUnit}
use Rattle.postcard_shape.specs.Lists.{IsFewSeq}
use Rattle.postcard_shape.specs.Options.{ResultReads}
use Rattle.postcard_schema.specs.declared.leaf.Integer.{Integer}
use Rattle.postcard_schema.specs.declared.leaf.Leaf.{Leaf}
use Rattle.postcard_schema.specs.declared.leaf.Leaf.TheVariants as leaves
use Rattle.postcard_schema.specs.Meaning.{MessageType, leaf, option, seq, array, group, choice, no_types, row_of, integer_reads, leaf_reads, reads, reads_all, reads_at}
use Rattle.postcard_described.specs.SameBytes.{same_tree}
use Rattle.postcard_described.specs.Within.{Within, RowWithin, itself, some_within}
use Rattle.postcard_described.specs.Sets.{option_within, seq_within, few_within, array_within, end_within, then_within, group_within, case_within, result_within, variants_within, flat_within}

-- The schema of a type that reads these trees.
pub record Described : Type 1 where
  -- The trees that the type reads.
  pub has : Tree → Type 0
  -- The schema without names.
  pub message : MessageType
  -- The type reads each tree of its schema. A type that refuses values doesn't, as `NonZeroU8` refuses 0.
  pub exact : Type 0
  -- Each tree that the type reads is one of the schema. If the type is exact, it reads each tree of the schema.
  pub within : Within exact has (reads message)

-- The same of parts in a row.
pub record RowDescribed : Type 1 where
  pub has : Trees → Type 0
  pub messages : List MessageType
  pub exact : Type 0
  pub within : RowWithin exact has (reads_all (row_of messages))

-- The same of variants in a row.
pub record CasesDescribed : Type 1 where
  pub has : ℕ → Tree → Type 0
  pub messages : List MessageType
  pub exact : Type 0
  pub within : (i : ℕ) → Within exact (has i) (reads_at (row_of messages) i)

-- A type without parts.
abbrev pub of_leaf : Leaf → Described
of_leaf l = record { has = leaf_reads l; message = leaf l; exact = ⊤; within = itself }

-- A type of integers.
abbrev pub of_integer : Integer → Described
of_integer i = record { has = integer_reads i; message = leaf (leaves.Integer i); exact = ⊤; within = itself }

-- A type that reads some of the trees of another.
abbrev pub of_some : (F : Tree → Type 0) (d : Described) → ((t : Tree) → F t → d.has t) → Described
of_some F d h = record { has = F; message = d.message; exact = ⊥; within = some_within h d.within }

-- An option of a type.
abbrev pub of_option : Described → Described
of_option d = record { has = IsOption d.has; message = option d.message; exact = d.exact; within = option_within d.within }

-- A list of any number of elements.
abbrev pub of_seq : Described → Described
of_seq d = record { has = IsSeq d.has; message = seq d.message; exact = d.exact; within = seq_within d.within }

-- A list of at most n elements.
abbrev pub of_few : ℕ → Described → Described
of_few n d = record { has = IsFewSeq n d.has; message = seq d.message; exact = ⊥; within = few_within n d.within }

-- An array of `n` elements.
abbrev pub of_array : ℕ → Described → Described
of_array n d = record { has = IsArray n d.has; message = array n d.message; exact = d.exact; within = array_within n d.within }

-- The row without parts.
abbrev pub no_parts : RowDescribed
no_parts = record { has = IsEnd; messages = []; exact = ⊤; within = end_within }

-- A part followed by a row.
abbrev pub part_then : Described → RowDescribed → RowDescribed
part_then d r = record { has = IsThen d.has r.has; messages = d.message ∷ r.messages; exact = d.exact × r.exact; within = then_within d.within r.within }

-- A group of parts within a row, described as if its parts stood in the row themselves.
abbrev pub flat_then : RowDescribed → RowDescribed → RowDescribed
flat_then d r = record { has = IsThen (IsGroup d.has) r.has; messages = d.messages ++ r.messages; exact = d.exact × r.exact; within = flat_within d.messages r.messages d.within r.within }

-- The group of the parts of a row.
abbrev pub of_parts : RowDescribed → Described
of_parts r = record { has = IsGroup r.has; message = group (row_of r.messages); exact = r.exact; within = group_within r.within }

-- No variants.
abbrev pub no_cases : CasesDescribed
no_cases = record { has = λ i t. ⊥; messages = []; exact = ⊤; within = λ i. itself }

-- A variant followed by others.
abbrev pub case_then : Described → CasesDescribed → CasesDescribed
case_then d r = record { has = case_reads d.has r.has; messages = d.message ∷ r.messages; exact = d.exact × r.exact; within = case_within d.message (row_of r.messages) d.within r.within }

-- The enum of these variants.
abbrev pub of_cases : CasesDescribed → Described
of_cases r = record { has = IsVariant r.has; message = choice (row_of r.messages); exact = r.exact; within = variants_within r.within }

-- The enum with the variants `Ok` and `Err`.
abbrev pub of_result : Described → Described → Described
of_result d e = record { has = IsVariant (ResultReads d.has e.has); message = choice (row_of (d.message ∷ e.message ∷ [])); exact = d.exact × e.exact; within = variants_within (result_within d.message e.message d.within e.within) }

-- The unit, n times.
abbrev pub units : ℕ → List MessageType
units zero = []
units (suc n) = group no_types ∷ units n

-- One unit more is the last of a row of units.
pub units_next : (n : ℕ) → units (suc n) ≡ units n ++ group no_types ∷ []
units_next zero = refl
units_next (suc n) = ap (λ ts. group no_types ∷ ts) (units_next n)

-- Each tree of a variant without content is one of the unit at its index.
unit_there : (n i : ℕ) (t : Tree) → IsUnit n i t → reads_at (row_of (units n)) i t
unit_there zero i t r = absurd (omega (arith, r.0))
unit_there (suc n) zero t r = r.1
unit_there (suc n) (suc i) t r = unit_there n i t (omega (arith, r.0), r.1)

-- Each tree of the unit at an index is one of the variant without content.
unit_back : (n i : ℕ) (t : Tree) → reads_at (row_of (units n)) i t → IsUnit n i t
unit_back zero i t r = absurd r
unit_back (suc n) zero t r = (omega arith, r)
unit_back (suc n) (suc i) t r = let k = unit_back n i t r in (omega (arith, k.0), k.1)

-- The trees of n variants without content are those of n units.
pub units_within : (n i : ℕ) → Within ⊤ (IsUnit n i) (reads_at (row_of (units n)) i)
units_within n i = record { inside = λ t r. (t, unit_there n i t r, same_tree t); all = λ _ t r. (t, unit_back n i t r, same_tree t) }

-- An enum of n variants without content.
abbrev pub of_units : ℕ → Described
of_units n = record { has = IsVariant (IsUnit n); message = choice (row_of (units n)); exact = ⊤; within = variants_within (units_within n) }
