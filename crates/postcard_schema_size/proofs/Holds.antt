-- The limit of a type holds of its messages: none is longer, and some message has this size if it is reached.
use Rattle.std.proofs.Common.{◌≡◌, ◌≤◌, ◌<◌, ◌*◌, ◌^◌, ℕ, zero, suc, refl, ap, ◌∙◌, subst, arith}
use Rattle.std.specs.Prelude.{Option, Some}
use Rattle.postcard_wire.specs.Tree.{Tree, Trees, Group, NoTrees, Then, count}
use Rattle.postcard_wire.specs.Reading.{IsByte, IsArray, IsVariant}
use Rattle.postcard_wire.specs.declared.error.Error.{Error}
use Rattle.postcard_schema.specs.Leaves.{float_size, size_of}
use Rattle.postcard_schema.specs.Meaning.{MessageType, MessageTypes, leaf, option, seq, array, group, choice, no_types, then_type, reads, reads_all, reads_at, leaf_reads}
use Rattle.postcard_schema.specs.declared.leaf.Float.{Float}
use Rattle.postcard_schema.specs.declared.leaf.Float.TheVariants.{F32, F64}
use Rattle.postcard_schema.specs.declared.leaf.Leaf.{Leaf}
use Rattle.postcard_schema.specs.declared.leaf.Leaf.TheVariants as leaves
use Rattle.postcard_shape.specs.Cases.{case_reads}
use Rattle.postcard_shape.specs.Shape.{never}
use Rattle.postcard_max.specs.Sizes.{limited}
use Rattle.postcard_max.specs.SizeLimit.{SizeLimit, exactly}
use Rattle.postcard_max.specs.Limits.{AreBounded, IsReached, IsLimitOf, IsLimit, IsRowLimit, trees_len}
use Rattle.postcard_max.specs.Willing.{never_any}
use Rattle.postcard_max.specs.Leaves.{byte_lawful, boolean_lawful, num_lawful, int_lawful, char_lawful}
use Rattle.postcard_max.specs.Containers.{option_lawful, array_lawful}
use Rattle.postcard_max.specs.Rows.{end_lawful, then_lawful, group_lawful}
use Rattle.postcard_max.specs.CasesLimit.{IsCasesLimit, no_case_lawful, case_lawful, variants_lawful}
use Rattle.postcard_schema_size.specs.Sizes.{repeated, limit, limit_all, limit_of_choice, limit_from}
use Rattle.postcard_schema_size.proofs.Integers.{each_integer, size_few}
use Rattle.postcard_schema_size.proofs.Sums.{small}

-- The laws of `postcard_max` also say which values refuse themselves. Here no value does.
abbrev Holds : SizeLimit → (Tree → Type 0) → Type 0
Holds l has = IsLimit l has (λ (v : Unit {0}). never)

-- The same of parts in a row.
abbrev RowHolds : SizeLimit → (Trees → Type 0) → Type 0
RowHolds l has = IsRowLimit l has (λ (v : Unit {0}). never)

-- The same of variants, from an index on.
abbrev CasesHold : (Option ℕ → SizeLimit) → (ℕ → Tree → Type 0) → Option ℕ → Type 0
CasesHold l has = IsCasesLimit l has (λ (v : Unit {0}). never)

holding : {X V : Type 0} {measure : X → ℕ} {l : SizeLimit} {has : X → Type 0} {refusal : V → Error → Type 0} → IsLimitOf measure l has refusal
    → IsLimitOf measure l has (λ (v : Unit {0}). never)
holding h = record { bounded = h.bounded; is_reached = h.is_reached; never_refuses = λ may. never_any }

-- An empty row of trees has no bytes.
no_bytes : (ts : Trees) → count ts ≡ 0 → trees_len ts ≤ 0
no_bytes NoTrees e = omega arith
no_bytes (Then t ts) e = absurd (omega (arith, e))

-- If the limit of the elements holds, n times their greatest size holds as the limit of an array of n elements.
array_holds : (n : ℕ) (l : SizeLimit) (has : Tree → Type 0) → Holds l has → Holds (record l { greatest = repeated n l.greatest }) (IsArray n has)
array_holds zero l has h = record {
  bounded = λ t f. rw f.1 (no_bytes f.0 f.2);
  is_reached = λ may. (Group NoTrees, (NoTrees, refl, refl, tt), refl);
  never_refuses = λ may. never_any;
}
array_holds (suc n) l has h = holding (array_lawful (suc n) h)

-- The limit of n bytes is n. A float and a number of a fixed width are such arrays of bytes.
bytes_hold : (n : ℕ) → n < 2 ^ 64 → Holds (exactly n) (IsArray n IsByte)
bytes_hold n few =
    let is : limited (n * 1) ≡ Some n = ap limited (omega arith) ∙ small n few in
    subst (λ g. Holds (record (exactly n) { greatest = g }) (IsArray n IsByte)) is (holding (array_lawful n (byte_lawful {V = Unit {0}})))

float_holds : (f : Float) → Holds (exactly (float_size f)) (IsArray (float_size f) IsByte)
float_holds F32 = bytes_hold 4 (omega arith)
float_holds F64 = bytes_hold 8 (omega arith)

leaf_holds : (l : Leaf) → Holds (limit (leaf l)) (leaf_reads l)
leaf_holds leaves.Bool = boolean_lawful
leaf_holds (leaves.Integer i) = each_integer (λ n. Holds (exactly n)) byte_lawful num_lawful int_lawful i
leaf_holds (leaves.Float f) = float_holds f
leaf_holds leaves.Char = char_lawful
leaf_holds leaves.Str = record { bounded = tt; is_reached = λ _. tt; never_refuses = λ _. never_any }
leaf_holds leaves.Bytes = record { bounded = tt; is_reached = λ _. tt; never_refuses = λ _. never_any }
leaf_holds (leaves.Fixed order i) = bytes_hold (size_of i) (omega (arith, size_few i))

-- The variant at index j of a type and those after it is the first at 0, and else one of the others.
same_at : (t : MessageType) (ts : MessageTypes) (j : ℕ) → case_reads (reads t) (reads_at ts) j ≡ reads_at (then_type t ts) j
same_at t ts zero = refl
same_at t ts (suc j) = refl

as_cases : (t : MessageType) (ts : MessageTypes) → case_reads (reads t) (reads_at ts) ≡ reads_at (then_type t ts)
as_cases t ts = λ i j. same_at t ts j i

mutual
  holds : (t : MessageType) → Holds (limit t) (reads t)
  holds (leaf l) = leaf_holds l
  holds (option t) = holding (option_lawful (holds t))
  holds (seq t) = record { bounded = tt; is_reached = λ _. tt; never_refuses = λ _. never_any }
  holds (array n t) = array_holds n (limit t) (reads t) (holds t)
  holds (group ts) = group_lawful (holds_all ts)
  holds (choice ts) = holds_choice ts

  holds_all : (ts : MessageTypes) → RowHolds (limit_all ts) (reads_all ts)
  holds_all no_types = end_lawful
  holds_all (then_type t ts) = holding (then_lawful (holds t) (holds_all ts))

  holds_choice : (ts : MessageTypes) → Holds (limit_of_choice ts) (reads (choice ts))
  holds_choice no_types = record { bounded = tt; is_reached = λ _. tt; never_refuses = λ _. never_any }
  holds_choice (then_type t ts) =
      subst (λ has. Holds (limit_of_choice (then_type t ts)) (IsVariant has)) (as_cases t ts) (holding (variants_lawful (holds t) (holds_from ts)))

  holds_from : (ts : MessageTypes) (i : Option ℕ) → CasesHold (limit_from ts) (reads_at ts) i
  holds_from no_types i = no_case_lawful i
  holds_from (then_type t ts) i =
      let h = case_lawful (holds t) (holds_from ts) i in
      subst (λ has. CasesHold (limit_from (then_type t ts)) has i) (as_cases t ts)
      (record { bounded = h.bounded; is_reached = h.is_reached; never_refuses = λ _. never_any })

-- No message of the type is longer than its greatest size.
pub bounded : (t : MessageType) → AreBounded (limit t).greatest (reads t)
bounded t = (holds t).bounded

-- If `reached` holds of its limit, a message of the type is as long.
pub is_reached : (t : MessageType) → (limit t).reached → IsReached (limit t).greatest (reads t)
is_reached t = (holds t).is_reached
