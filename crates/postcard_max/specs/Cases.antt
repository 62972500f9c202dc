-- The greatest sizes of enums: that of the greatest variant, each with its index (wire format 1.0,
-- "newtype_variant").
use Rattle.std.proofs.Common.{◌≡◌, ℕ, zero, suc, ◌+◌, ◌<◌, ◌≤◌, ◌^◌, inl, inr, Option, Some, None, true, false, refl, ap, subst, arith, length-append, nat_lt, sym, ◌∙◌}
use Rattle.std.specs.Prelude.{max, if◌then◌else◌, IfSome}
use Rattle.std.proofs.lemmas.Bool.{cases_lt}
use Rattle.postcard_wire.specs.Number.{digits}
use Rattle.postcard_wire.specs.Tree.{Tree, Variant}
use Rattle.postcard_wire.specs.Spelling.{canonical}
use Rattle.postcard_wire.specs.Reading.{IsVariant}
use Rattle.postcard_shape.specs.Cases.{case_reads}
use Rattle.postcard_max.specs.Sizes.{sum_of, greater_of, varint_len, index_len, limited}
use Rattle.postcard_max.specs.SizeLimit.{IsIndex, no_case_greatest, case_greatest}
use Rattle.postcard_max.specs.Limits.{AreBounded, IsReached, tree_len}
use Rattle.postcard_max.specs.Counts.{some_count, count_len}

-- Each of the variants from the index i on, with its index, takes at most g bytes, if g is a
-- number.
abbrev pub FromBounded : ℕ → Option ℕ → (ℕ → Tree → Type 0) → Type 0
FromBounded i g reads = IfSome g (λ m. (j : ℕ) (t : Tree) → reads j t → tree_len (Variant (i + j) t) ≤ m)

-- One of the variants from the index i on takes g bytes, if g is a number and not 0.
abbrev pub FromReached : ℕ → Option ℕ → (ℕ → Tree → Type 0) → Type 0
FromReached i g reads = IfSome g (λ m. 1 ≤ m → (j : ℕ) × (t : Tree) × reads j t × (i + j < 2 ^ 32) × (tree_len (Variant (i + j) t) ≡ m))

-- `FromBounded`, if the index fits 64 bits; otherwise there is no greatest size.
abbrev pub CasesBounded : Option ℕ → Option ℕ → (ℕ → Tree → Type 0) → Type 0
CasesBounded None g reads = g ≡ None
CasesBounded (Some i) g reads = FromBounded i g reads

-- Some variant from index i on has this size, its index included.
abbrev pub CasesReached : Option ℕ → Option ℕ → (ℕ → Tree → Type 0) → Type 0
CasesReached None g reads = g ≡ None
CasesReached (Some i) g reads = FromReached i g reads

-- The index 0 fits 32 bits.
pub zero_index : IsIndex (Some 0)
zero_index = omega arith

-- The greatest size of no variants is 0.
pub no_case_bounded : (i : Option ℕ) → CasesBounded i (no_case_greatest i) (λ j t. ⊥)
no_case_bounded None = refl
no_case_bounded (Some i) = λ j t r. absurd r

pub no_case_reached : (i : Option ℕ) → CasesReached i (no_case_greatest i) (λ j t. ⊥)
no_case_reached None = refl
no_case_reached (Some i) = λ h. absurd (omega (arith, h))

-- The encoding of a variant is as long as its index and its content together.
variant_len : (i : ℕ) (t : Tree) → tree_len (Variant i t) ≡ varint_len i + tree_len t
variant_len i t = omega (arith, count_len i, length-append (digits i) (canonical t))

-- The variants after the first, at indices one higher, have their own greatest size.
later_bounded : (i : ℕ) (g : Option ℕ → Option ℕ) (reads : ℕ → Tree → Type 0) → ((k : Option ℕ) → CasesBounded k (g k) reads) → FromBounded (i + 1) (g (limited (i + 1))) reads
later_bounded i g reads h = elim (nat_lt (i + 1) (2 ^ 64)) as (λ v. FromBounded (i + 1) (g (if v then Some (i + 1) else None)) reads) [
  | true ↦ h (Some (i + 1))
  | false ↦ subst (λ q. FromBounded (i + 1) q reads) (sym (h None)) tt
]

later_reached : (i : ℕ) (g : Option ℕ → Option ℕ) (reads : ℕ → Tree → Type 0) → CasesReached (sum_of (Some i) (Some 1)) (g (sum_of (Some i) (Some 1))) reads → FromReached (i + 1) (g (limited (i + 1))) reads
later_reached i g reads = elim (nat_lt (i + 1) (2 ^ 64)) as (λ v. CasesReached (if v then Some (i + 1) else None) (g (if v then Some (i + 1) else None)) reads → FromReached (i + 1) (g (if v then Some (i + 1) else None)) reads) [
  | true ↦ λ h. h
  | false ↦ λ h. subst (λ q. FromReached (i + 1) q reads) (sym h) tt
]

longest_case : (i a b : ℕ) (s : Tree → Type 0) (r : ℕ → Tree → Type 0) → ((t : Tree) → s t → tree_len t ≤ a) → ((j : ℕ) (t : Tree) → r j t → tree_len (Variant (i + 1 + j) t) ≤ b)
    → (j : ℕ) (t : Tree) → case_reads s r j t → tree_len (Variant (i + j) t) ≤ max (varint_len i + a) b
longest_case i a b s r h k zero t f =
    let e : i + 0 ≡ i = omega arith in
    rw e (omega (arith, variant_len i t, h t f))
longest_case i a b s r h k (suc j) t f =
    let e : i + suc j ≡ i + 1 + j = omega arith in
    rw e (omega (arith, k j t f))

first_bounded : (i a : ℕ) (q : Option ℕ) (s : Tree → Type 0) (r : ℕ → Tree → Type 0) → ((t : Tree) → s t → tree_len t ≤ a) → FromBounded (i + 1) q r → FromBounded i (greater_of (limited (varint_len i + a)) q) (case_reads s r)
first_bounded i a q s r h k = elim (nat_lt (varint_len i + a) (2 ^ 64)) as (λ v. FromBounded i (greater_of (if v then Some (varint_len i + a) else None) q) (case_reads s r)) [
  | true ↦ with_others q k
  | false ↦ tt
]
  where
    with_others : (q : Option ℕ) → FromBounded (i + 1) q r → FromBounded i (greater_of (Some (varint_len i + a)) q) (case_reads s r)
    with_others None k = tt
    with_others (Some b) k = longest_case i a b s r h k

-- The greatest size of a variant and those after it is the greater of the two.
pub case_bounded : (a : Option ℕ) (g : Option ℕ → Option ℕ) (s : Tree → Type 0) (r : ℕ → Tree → Type 0) → AreBounded a s → ((k : Option ℕ) → CasesBounded k (g k) r)
    → (i : Option ℕ) → CasesBounded i (case_greatest a g i) (case_reads s r)
case_bounded a g s r h k None = refl
case_bounded None g s r h k (Some i) = tt
case_bounded (Some a) g s r h k (Some i) = first_bounded i a (g (limited (i + 1))) s r h (later_bounded i g r k)

longer_case : (i a b : ℕ) (s : Tree → Type 0) (r : ℕ → Tree → Type 0) → i < 2 ^ 32 → ((t : Tree) × s t × (tree_len t ≡ a)) → FromReached (i + 1) (Some b) r
    → FromReached i (Some (max (varint_len i + a) b)) (case_reads s r)
longer_case i a b s r few (t, f, d) k _ = elim (cases_lt (varint_len i + a) b) [
  | inl less ↦
      let (j, u, p, low, e) = k (omega (arith, less)) in
      (suc j, u, p, omega (arith, low), ap (λ (n : ℕ). tree_len (Variant n u)) (next j) ∙ (e ∙ omega (arith, less)))
  | inr more ↦ (0, t, f, omega (arith, few), ap (λ (n : ℕ). tree_len (Variant n t)) here ∙ omega (arith, more, d, variant_len i t))
]
  where
    next : (j : ℕ) → i + suc j ≡ i + 1 + j
    next j = omega arith

    here : i + 0 ≡ i
    here = omega arith

first_reached : (i a : ℕ) (q : Option ℕ) (s : Tree → Type 0) (r : ℕ → Tree → Type 0) → i < 2 ^ 32 → ((t : Tree) × s t × (tree_len t ≡ a)) → FromReached (i + 1) q r → FromReached i (greater_of (limited (varint_len i + a)) q) (case_reads s r)
first_reached i a q s r few h k = elim (nat_lt (varint_len i + a) (2 ^ 64)) as (λ v. FromReached i (greater_of (if v then Some (varint_len i + a) else None) q) (case_reads s r)) [
  | true ↦ with_others q k
  | false ↦ tt
]
  where
    with_others : (q : Option ℕ) → FromReached (i + 1) q r → FromReached i (greater_of (Some (varint_len i + a)) q) (case_reads s r)
    with_others None k = tt
    with_others (Some b) k = longer_case i a b s r few h k

-- If a content reaches its size, and the other variants reach theirs, some variant reaches the greater of both.
pub case_reached : (a : Option ℕ) (g : Option ℕ → Option ℕ) (s : Tree → Type 0) (r : ℕ → Tree → Type 0) (i : Option ℕ) → IsIndex i → IsReached a s → CasesReached (sum_of i (Some 1)) (g (sum_of i (Some 1))) r
    → CasesReached i (case_greatest a g i) (case_reads s r)
case_reached a g s r None few h k = refl
case_reached None g s r (Some i) few h k = tt
case_reached (Some a) g s r (Some i) few h k = first_reached i a (g (limited (i + 1))) s r few h (later_reached i g r k)

from_zero : (j : ℕ) → 0 + j ≡ j
from_zero j = omega arith

-- The greatest size of an enum is that of its variants from index 0 on.
pub variants_bounded : (g : Option ℕ) (reads : ℕ → Tree → Type 0) → CasesBounded (Some 0) g reads → AreBounded g (IsVariant reads)
variants_bounded None reads h = tt
variants_bounded (Some m) reads h = λ t (j, s, e, few, r). rw e (subst (λ (n : ℕ). tree_len (Variant n s) ≤ m) (from_zero j) (h j s r))

some_bytes : (a : Option ℕ) (q : Option ℕ) → IfSome (greater_of (sum_of (index_len (Some 0)) a) q) (λ m. 1 ≤ m)
some_bytes None q = tt
some_bytes (Some a) q = elim (nat_lt (varint_len 0 + a) (2 ^ 64)) as (λ v. IfSome (greater_of (if v then Some (varint_len 0 + a) else None) q) (λ m. 1 ≤ m)) [
  | true ↦ with_others q
  | false ↦ tt
]
  where
    with_others : (q : Option ℕ) → IfSome (greater_of (Some (varint_len 0 + a)) q) (λ m. 1 ≤ m)
    with_others None = tt
    with_others (Some b) = omega (arith, some_count 0)

reached_once : (g : Option ℕ) (reads : ℕ → Tree → Type 0) → IfSome g (λ m. 1 ≤ m) → CasesReached (Some 0) g reads → IsReached g (IsVariant reads)
reached_once None reads h k = tt
reached_once (Some m) reads h k = let (j, s, r, few, e) = k h in (Variant j s, (j, s, refl, omega (arith, few), r), ap (λ (n : ℕ). tree_len (Variant n s)) (sym (from_zero j)) ∙ e)

-- The size of an enum is reached if those of its variants are.
pub variants_reached : (a : Option ℕ) (g : Option ℕ → Option ℕ) (reads : ℕ → Tree → Type 0) → CasesReached (Some 0) (case_greatest a g (Some 0)) reads → IsReached (case_greatest a g (Some 0)) (IsVariant reads)
variants_reached a g reads k = reached_once (case_greatest a g (Some 0)) reads (some_bytes a (g (sum_of (Some 0) (Some 1)))) k
