-- The sets of trees that types are made of: each is covered by another if its parts' sets are.
use Rattle.std.specs.Prelude.{◌≡◌, ℕ, zero, suc, ◌<◌, ◌^◌, ◌++◌, List, [], ◌∷◌, ⊤}
use Rattle.std.proofs.Common.{inl, inr, refl, sym, ap, ◌∙◌, subst}
use Rattle.postcard_wire.specs.Tree.{Tree, Trees, Present, Group, Seq, Variant, NoTrees, Then, count}
use Rattle.postcard_wire.specs.Reading.{Each, IsOption, IsSeq, IsArray, IsThen, IsGroup, IsVariant, IsEnd}
use Rattle.postcard_shape.specs.Cases.{case_reads}
use Rattle.postcard_shape.specs.Options.{ResultReads}
use Rattle.postcard_shape.specs.Lists.{IsFewSeq}
use Rattle.postcard_schema.specs.Meaning.{MessageType, MessageTypes, no_types, then_type, row_of, reads, reads_all, reads_at}
use Rattle.postcard_described.specs.SameBytes.{SameBytes, SameRow, same_tree, same_row, same_present, same_variant, same_group, same_seq, same_then, row_after, join, splice}
use Rattle.postcard_described.specs.Within.{Covered, RowCovered, Within, RowWithin, Same, alike, row_itself, some_of}

-- The lemmas `.._covered` and `.._within`: if F is covered by G, so is each set of trees that a type makes of F. There is one pair for each
-- kind of type.
option_covered : {F G : Tree → Type 0} → Covered F G → Covered (IsOption F) (IsOption G)
option_covered h t (inl e) = (t, inl e, same_tree t)
option_covered h t (inr (s, e, r)) =
    let (u, g, k) = h s r in
    (Present u, inr (u, refl, g), subst (λ x. SameBytes x (Present u)) (sym e) (same_present s u k))

pub option_within : {e : Type 0} {F G : Tree → Type 0} → Within e F G → Within e (IsOption F) (IsOption G)
option_within h = record { inside = option_covered h.inside; all = λ x. option_covered (h.all x) }

each_covered : {F G : Tree → Type 0} → Covered F G → (ts : Trees) → Each F ts → (us : Trees) × Each G us × (count ts ≡ count us) × SameRow ts us
each_covered h NoTrees e = (NoTrees, tt, refl, same_row NoTrees)
each_covered h (Then t ts) e =
    let (u, g, k) = h t e.0 in
    let (us, gs, n, ks) = each_covered h ts e.1 in
    (Then u us, (g, gs), ap (λ i. suc i) n, same_then t u ts us k ks)

seq_covered : {F G : Tree → Type 0} → Covered F G → Covered (IsSeq F) (IsSeq G)
seq_covered h t (ts, e, few, r) =
    let (us, g, n, k) = each_covered h ts r in
    (Seq us, (us, refl, subst (λ i. i < 2 ^ 64) n few, g), subst (λ x. SameBytes x (Seq us)) (sym e) (same_seq ts us n k))

pub seq_within : {e : Type 0} {F G : Tree → Type 0} → Within e F G → Within e (IsSeq F) (IsSeq G)
seq_within h = record { inside = seq_covered h.inside; all = λ x. seq_covered (h.all x) }

few_covered : {F G : Tree → Type 0} (n : ℕ) → Covered F G → Covered (IsFewSeq n F) (IsSeq G)
few_covered n h t (ts, e, k, few, r) = seq_covered h t (ts, e, few, r)

-- A list of at most n elements.
pub few_within : {e : Type 0} {F G : Tree → Type 0} (n : ℕ) → Within e F G → Within ⊥ (IsFewSeq n F) (IsSeq G)
few_within n h = some_of (few_covered n h.inside)

array_covered : {F G : Tree → Type 0} (n : ℕ) → Covered F G → Covered (IsArray n F) (IsArray n G)
array_covered n h t (ts, e, c, r) =
    let (us, g, k, same) = each_covered h ts r in
    (Group us, (us, refl, sym k ∙ c, g), subst (λ x. SameBytes x (Group us)) (sym e) (same_group ts us same))

pub array_within : {e : Type 0} {F G : Tree → Type 0} (n : ℕ) → Within e F G → Within e (IsArray n F) (IsArray n G)
array_within n h = record { inside = array_covered n h.inside; all = λ x. array_covered n (h.all x) }

pub end_within : RowWithin ⊤ IsEnd IsEnd
end_within = row_itself

then_covered : {F G : Tree → Type 0} {K L : Trees → Type 0} → Covered F G → RowCovered K L → RowCovered (IsThen F K) (IsThen G L)
then_covered h k ts (s, ss, e, a, b) =
    let (u, g, x) = h s a in
    let (us, l, y) = k ss b in
    (Then u us, (u, us, refl, g, l), subst (λ z. SameRow z (Then u us)) (sym e) (same_then s u ss us x y))

pub then_within : {e d : Type 0} {F G : Tree → Type 0} {K L : Trees → Type 0} → Within e F G → RowWithin d K L → RowWithin (e × d) (IsThen F K) (IsThen G L)
then_within h k = record { inside = then_covered h.inside k.inside; all = λ x. then_covered (h.all x.0) (k.all x.1) }

group_covered : {K L : Trees → Type 0} → RowCovered K L → Covered (IsGroup K) (IsGroup L)
group_covered k t (ts, e, a) =
    let (us, l, y) = k ts a in
    (Group us, (us, refl, l), subst (λ z. SameBytes z (Group us)) (sym e) (same_group ts us y))

pub group_within : {e : Type 0} {K L : Trees → Type 0} → RowWithin e K L → Within e (IsGroup K) (IsGroup L)
group_within k = record { inside = group_covered k.inside; all = λ x. group_covered (k.all x) }

variant_covered : {F G : ℕ → Tree → Type 0} → ((i : ℕ) → Covered (F i) (G i)) → Covered (IsVariant F) (IsVariant G)
variant_covered h t (i, s, e, few, r) =
    let (u, g, k) = h i s r in
    (Variant i u, (i, u, refl, few, g), subst (λ z. SameBytes z (Variant i u)) (sym e) (same_variant i s u k))

pub variants_within : {e : Type 0} {F G : ℕ → Tree → Type 0} → ((i : ℕ) → Within e (F i) (G i)) → Within e (IsVariant F) (IsVariant G)
variants_within h = record { inside = variant_covered (λ i. (h i).inside); all = λ x. variant_covered (λ i. (h i).all x) }

-- The content of a variant and of those after it.
pub case_within : {e d : Type 0} {s : Tree → Type 0} {r : ℕ → Tree → Type 0} (m : MessageType) (ms : MessageTypes) → Within e s (reads m) → ((i : ℕ) → Within d (r i) (reads_at ms i))
    → (i : ℕ) → Within (e × d) (case_reads s r i) (reads_at (then_type m ms) i)
case_within m ms h k zero = record { inside = h.inside; all = λ x. h.all x.0 }
case_within m ms h k (suc i) = let w = k i in record { inside = w.inside; all = λ x. w.all x.1 }

no_result : (i : ℕ) → Covered (λ t. ⊥) (λ t. ⊥)
no_result i t r = absurd r

-- The content of a result.
pub result_within : {e d : Type 0} {s r : Tree → Type 0} (m n : MessageType) → Within e s (reads m) → Within d r (reads n)
    → (i : ℕ) → Within (e × d) (ResultReads s r i) (reads_at (then_type m (then_type n no_types)) i)
result_within m n h k zero = record { inside = h.inside; all = λ x. h.all x.0 }
result_within m n h k (suc zero) = record { inside = k.inside; all = λ x. k.all x.1 }
result_within m n h k (suc (suc i)) = record { inside = no_result i; all = λ x. no_result i }

-- A row of the first types and then of the others is one of both, joined.
rows_joined : (ms ns : List MessageType) (ts us : Trees) → reads_all (row_of ms) ts → reads_all (row_of ns) us → reads_all (row_of (ms ++ ns)) (join ts us)
rows_joined [] ns ts us a b = subst (λ z. reads_all (row_of ns) (join z us)) (sym a) b
rows_joined (m ∷ ms) ns ts us (s, ss, e, f, a) b =
    subst (λ z. reads_all (row_of (m ∷ ms ++ ns)) (join z us)) (sym e) (s, join ss us, refl, f, rows_joined ms ns ss us a b)

rows_cut : (ms ns : List MessageType) (vs : Trees) → reads_all (row_of (ms ++ ns)) vs → (ts : Trees) × (us : Trees) × reads_all (row_of ms) ts × reads_all (row_of ns) us × (vs ≡ join ts us)
rows_cut [] ns vs r = (NoTrees, vs, refl, r, refl)
rows_cut (m ∷ ms) ns vs (s, ss, e, f, r) =
    let (ts, us, a, b, k) = rows_cut ms ns ss r in
    (Then s ts, us, (s, ts, refl, f, a), b, e ∙ ap (λ z. Then s z) k)

-- A group of parts, and then the parts after it, are covered by all parts in one row.
flat_inside : {K L : Trees → Type 0} (ms ns : List MessageType) → RowCovered K (reads_all (row_of ms)) → RowCovered L (reads_all (row_of ns))
    → RowCovered (IsThen (IsGroup K) L) (reads_all (row_of (ms ++ ns)))
flat_inside ms ns h k ts (s, ss, e, (xs, f, a), b) =
    let (us, g, x) = h xs a in
    let (vs, l, y) = k ss b in
    let here : ts ≡ Then (Group xs) ss = e ∙ ap (λ z. Then z ss) f in (
      join us vs,
      rows_joined ms ns us vs g l,
      subst (λ z. SameRow z (join us vs)) (sym here) (row_after (Then (Group xs) ss) (Then (Group us) vs) (join us vs) (same_then (Group xs) (Group us) ss vs (same_group xs us x) y) (splice us vs)),
    )

row_turned : (ts us : Trees) → SameRow ts us → SameRow us ts
row_turned ts us h = record { there = h.back; back = h.there }

flat_all : {K L : Trees → Type 0} (ms ns : List MessageType) → RowCovered (reads_all (row_of ms)) K → RowCovered (reads_all (row_of ns)) L
    → RowCovered (reads_all (row_of (ms ++ ns))) (IsThen (IsGroup K) L)
flat_all ms ns h k vs r =
    let (ts, us, a, b, e) = rows_cut ms ns vs r in
    let (xs, f, x) = h ts a in
    let (ss, l, y) = k us b in (
      Then (Group xs) ss,
      (Group xs, ss, refl, (xs, refl, f), l),
      subst (λ z. SameRow z (Then (Group xs) ss)) (sym e) (row_after (join ts us) (Then (Group ts) us) (Then (Group xs) ss) (row_turned _ _ (splice ts us)) (same_then (Group ts) (Group xs) us ss (same_group ts xs x) y)),
    )

pub flat_within : {e d : Type 0} {K L : Trees → Type 0} (ms ns : List MessageType) → RowWithin e K (reads_all (row_of ms)) → RowWithin d L (reads_all (row_of ns))
    → RowWithin (e × d) (IsThen (IsGroup K) L) (reads_all (row_of (ms ++ ns)))
flat_within ms ns h k = record { inside = flat_inside ms ns h.inside k.inside; all = λ x. flat_all ms ns (h.all x.0) (k.all x.1) }

-- The lemmas `.._map`: if each tree of F is one of G, the same holds of the options, lists, arrays, groups and variants of both. The lemmas
-- `.._same` follow, for equal sets.
option_map : {F G : Tree → Type 0} → ((t : Tree) → F t → G t) → (t : Tree) → IsOption F t → IsOption G t
option_map h t (inl e) = inl e
option_map h t (inr (s, e, r)) = inr (s, e, h s r)

each_map : {F G : Tree → Type 0} → ((t : Tree) → F t → G t) → (ts : Trees) → Each F ts → Each G ts
each_map h NoTrees e = tt
each_map h (Then t ts) e = (h t e.0, each_map h ts e.1)

seq_map : {F G : Tree → Type 0} → ((t : Tree) → F t → G t) → (t : Tree) → IsSeq F t → IsSeq G t
seq_map h t (ts, e, few, r) = (ts, e, few, each_map h ts r)

array_map : {F G : Tree → Type 0} (n : ℕ) → ((t : Tree) → F t → G t) → (t : Tree) → IsArray n F t → IsArray n G t
array_map n h t (ts, e, k, r) = (ts, e, k, each_map h ts r)

then_map : {F G : Tree → Type 0} {K L : Trees → Type 0} → ((t : Tree) → F t → G t) → ((ts : Trees) → K ts → L ts) → (ts : Trees) → IsThen F K ts → IsThen G L ts
then_map h k ts (s, ss, e, a, b) = (s, ss, e, h s a, k ss b)

group_map : {K L : Trees → Type 0} → ((ts : Trees) → K ts → L ts) → (t : Tree) → IsGroup K t → IsGroup L t
group_map k t (ts, e, a) = (ts, e, k ts a)

variant_map : {F G : ℕ → Tree → Type 0} → ((i : ℕ) (t : Tree) → F i t → G i t) → (t : Tree) → IsVariant F t → IsVariant G t
variant_map h t (i, s, e, few, r) = (i, s, e, few, h i s r)

few_map : {F G : Tree → Type 0} (n : ℕ) → ((t : Tree) → F t → G t) → (t : Tree) → IsFewSeq n F t → IsSeq G t
few_map n h t (ts, e, k, few, r) = (ts, e, few, each_map h ts r)

pub option_same : {F G : Tree → Type 0} → Same F G → Same (IsOption F) (IsOption G)
option_same h = record { there = option_map h.there; back = option_map h.back }

pub seq_same : {F G : Tree → Type 0} → Same F G → Same (IsSeq F) (IsSeq G)
seq_same h = record { there = seq_map h.there; back = seq_map h.back }

few_of_few : {F G : Tree → Type 0} (n : ℕ) → ((t : Tree) → F t → G t) → (t : Tree) → IsFewSeq n F t → IsFewSeq n G t
few_of_few n h t (ts, e, k, few, r) = (ts, e, k, few, each_map h ts r)

pub few_same : {F G : Tree → Type 0} (n : ℕ) → Same F G → Same (IsFewSeq n F) (IsFewSeq n G)
few_same n h = record { there = few_of_few n h.there; back = few_of_few n h.back }

pub array_same : {F G : Tree → Type 0} (n : ℕ) → Same F G → Same (IsArray n F) (IsArray n G)
array_same n h = record { there = array_map n h.there; back = array_map n h.back }

pub then_same : {F G : Tree → Type 0} {K L : Trees → Type 0} → Same F G → Same K L → Same (IsThen F K) (IsThen G L)
then_same h k = record { there = then_map h.there k.there; back = then_map h.back k.back }

pub end_same : Same IsEnd IsEnd
end_same = alike

pub group_same : {K L : Trees → Type 0} → Same K L → Same (IsGroup K) (IsGroup L)
group_same k = record { there = group_map k.there; back = group_map k.back }

pub variants_same : {F G : ℕ → Tree → Type 0} → ((i : ℕ) → Same (F i) (G i)) → Same (IsVariant F) (IsVariant G)
variants_same h = record { there = variant_map (λ i. (h i).there); back = variant_map (λ i. (h i).back) }

pub case_same : {F G : Tree → Type 0} {K L : ℕ → Tree → Type 0} → Same F G → ((i : ℕ) → Same (K i) (L i)) → (i : ℕ) → Same (case_reads F K i) (case_reads G L i)
case_same h k zero = h
case_same h k (suc i) = k i

pub result_same : {F G P Q : Tree → Type 0} → Same F G → Same P Q → (i : ℕ) → Same (ResultReads F P i) (ResultReads G Q i)
result_same h k zero = record { there = h.there; back = h.back }
result_same h k (suc zero) = record { there = k.there; back = k.back }
result_same h k (suc (suc i)) = record { there = λ t r. r; back = λ t r. r }
