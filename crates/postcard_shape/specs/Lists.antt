-- The shapes of lists: with their count before them, arrays, of a fixed capacity, and in any order
-- (wire format 1.0, "seq" and "tuple").
use Rattle.std.proofs.Common.{refl, sym, ap₂, ◌∙◌, subst, ap, suc}
use Rattle.std.proofs.lemmas.List.Sorted.{IsPermutation-refl}
use Rattle.std.specs.List.Sorted.{IsPermutation}
use Rattle.std.specs.Prelude.{◌≡◌, ℕ, List, [], ◌∷◌, ◌++◌, length, ◌<◌, ◌≤◌, ◌^◌, map, Any}
use Rattle.postcard_wire.proofs.Delimited.{seq_delimited, array_delimited, fewer_delimited}
use Rattle.postcard_wire.proofs.WellFormed.{seq_well_formed, array_well_formed}
use Rattle.postcard_wire.specs.Reading.{Each, IsGroup, IsSeq, IsArray}
use Rattle.postcard_wire.specs.Spelling.{SpellsAll}
use Rattle.postcard_wire.specs.Tree.{Tree, Trees, Seq, NoTrees, Then, count, Group, trees}
use Rattle.postcard_shape.specs.Rows.{group_one}
use Rattle.postcard_shape.specs.Shape.{ComesBack, Shape, HasOne}

-- Each value of the list is one of its tree in the row, in order.
abbrev pub EachIs : {V : Type 0} → (Tree → V → Type 0) → Trees → List V → Type 0
EachIs value NoTrees [] = Unit {0}
EachIs value (Then t ts) (v ∷ vs) = value t v × EachIs value ts vs
EachIs value _ _ = ⊥

-- The list's elements are the values of the parts of the tree, which is a list.
abbrev pub ListIs : {V : Type 0} → (Tree → V → Type 0) → Tree → List V → Type 0
ListIs value t vs = (ts : Trees) × (t ≡ Seq ts) × EachIs value ts vs

-- The row has n trees, each of the set.
abbrev pub AreRead : ℕ → (Tree → Type 0) → Trees → Type 0
AreRead n reads ts = (count ts ≡ n) × Each reads ts

-- The bytes spell trees in a row, each of which is read, and the elements of the list are their
-- values.
abbrev pub AreValues : {V : Type 0} → (Tree → Type 0) → (Tree → V → Type 0) → List ℕ → List V →
    Type 0
AreValues reads value p vs = (ts : Trees) × Each reads ts × SpellsAll ts p × EachIs value ts vs

-- Elements were appended to the list `old`, at least one and at most `most`, which is now `new`, and
-- the bytes are a spelling of them.
abbrev pub Appends : {V : Type 0} → (Tree → Type 0) → (Tree → V → Type 0) → ℕ → List ℕ → List V →
    List V → Type 0
Appends {V} reads value most p old new = (vs : List V) × AreValues reads value p vs × (0 < length vs)
    × (length vs ≤ most) × (new ≡ old ++ vs)

-- Two lists have the same length, and their elements look alike, one by one.
abbrev pub SameList : {V : Type 0} → (V → V → Type 0) → List V → List V → Type 0
SameList same [] [] = Unit {0}
SameList same (v ∷ vs) (w ∷ ws) = same v w × SameList same vs ws
SameList same _ _ = ⊥

-- Lists whose elements are equal, one by one, are equal.
pub same_list : {V : Type 0} (vs ws : List V) → SameList (λ v w. v ≡ w) vs ws → vs ≡ ws
same_list [] [] h = refl
same_list [] (w ∷ ws) h = absurd h
same_list (v ∷ vs) [] h = absurd h
same_list {V} (v ∷ vs) (w ∷ ws) h = ap₂ (λ (x : V) (xs : List V). x ∷ xs) h.0 (same_list vs ws h.1)

-- If the values of one tree look alike, so do the lists of values of trees in a row.
pub each_one : {V : Type 0} (value : Tree → V → Type 0) (same : V → V → Type 0) → HasOne value same → (ts : Trees) (vs ws : List V) → EachIs value ts vs → EachIs value ts ws → SameList same vs ws
each_one value same one NoTrees [] [] h k = tt
each_one value same one NoTrees [] (w ∷ ws) h k = absurd k
each_one value same one NoTrees (v ∷ vs) ws h k = absurd h
each_one value same one (Then t ts) [] ws h k = absurd h
each_one value same one (Then t ts) (v ∷ vs) [] h k = absurd k
each_one value same one (Then t ts) (v ∷ vs) (w ∷ ws) h k = (one t v w h.0 k.0, each_one value same one ts vs ws h.1 k.1)

-- The node of a list determines its parts.
parts_same : (ts ss : Trees) → Seq ts ≡ Seq ss → ts ≡ ss
parts_same ts ss e = cc

-- The lists of one tree look alike if their elements do.
pub list_one : {V L : Type 0} (see : L → List V) (value : Tree → V → Type 0) (same : V → V → Type 0) → HasOne value same → HasOne (λ t l. ListIs value t (see l)) (λ l m. SameList same (see l) (see m))
list_one see value same one t l m h k =
    let e = parts_same k.0 h.0 (sym k.1 ∙ h.1) in
    each_one value same one h.0 (see l) (see m) h.2 (subst (λ (ts : Trees). EachIs value ts (see m)) e k.2)

-- Each element of the list fits.
abbrev pub AllFit : {V : Type 0} → (V → Type 0) → List V → Type 0
AllFit fits [] = Unit {0}
AllFit fits (v ∷ vs) = fits v × AllFit fits vs

-- The trees of the elements are as many as the elements.
pub counted : {V : Type 0} (tree : V → Tree) (vs : List V) → count (trees (map tree vs)) ≡ length vs
counted tree [] = refl
counted tree (v ∷ vs) = ap (λ n. suc n) (counted tree vs)

-- If each element fits, the tree of each is one that is read.
pub each : {V : Type 0} (tree : V → Tree) (reads : Tree → Type 0) (fits : V → Type 0) → ((v : V) → fits v → reads (tree v)) → (vs : List V) → AllFit fits vs → Each reads (trees (map tree vs))
each tree reads fits h [] f = tt
each tree reads fits h (v ∷ vs) f = (h v f.0, each tree reads fits h vs f.1)

-- If each element fits and the list has fewer than 2 ^ 64, its trees are those of a counted list
-- that is read.
pub each_read : {V : Type 0} (tree : V → Tree) (reads : Tree → Type 0) (fits : V → Type 0) → ((v : V) → fits v → reads (tree v)) → (vs : List V) → AllFit fits vs → length vs < 2 ^ 64 → (count (trees (map tree vs)) < 2 ^ 64) × Each reads (trees (map tree vs))
each_read tree reads fits h vs f few = (subst (λ n. n < 2 ^ 64) (sym (counted tree vs)) few, each tree reads fits h vs f)

-- If each element fits, each is a value of its tree.
pub each_is : {V : Type 0} (tree : V → Tree) (value : Tree → V → Type 0) (fits : V → Type 0) → ((v : V) → fits v → value (tree v) v) → (vs : List V) → AllFit fits vs → EachIs value (trees (map tree vs)) vs
each_is tree value fits h [] f = tt
each_is tree value fits h (v ∷ vs) f = (h v f.0, each_is tree value fits h vs f.1)

-- A list comes back if its elements do.
pub seq_again : {V : Type 0} (tree : V → Tree) (reads : Tree → Type 0) (value : Tree → V → Type 0) (fits : V → Type 0) → ComesBack tree reads value fits →
    ComesBack (λ v. Seq (trees (map tree v))) (IsSeq reads) (ListIs value) (λ v. (length v < 2 ^ 64) × AllFit fits v)
seq_again tree reads value fits again v f =
    let (n, r) = each_read tree reads fits (λ a k. (again a k).0) v f.1 f.0 in
    ((trees (map tree v), refl, n, r), (trees (map tree v), refl, each_is tree value fits (λ a k. (again a k).1) v f.1))

-- The shape of a list, with its count before it.
abbrev pub seq : {V : Type 0} → Shape V → Shape (List V)
seq s = record {
  tree = λ v. Seq (trees (map s.tree v));
  refusal = λ v e. Any (λ x. s.refusal x e) v;
  text = s.text;
  reads = IsSeq s.reads;
  value = ListIs s.value;
  same = SameList s.same;
  other = s.other;
  fits = λ v. (length v < 2 ^ 64) × AllFit s.fits v;
  delimited = seq_delimited s.reads s.delimited;
  well_formed = seq_well_formed s.reads s.well_formed;
  one_value = list_one (λ v. v) s.value s.same s.one_value;
  again = seq_again s.tree s.reads s.value s.fits s.again;
}

-- An array comes back if its elements do.
pub array_again : {V : Type 0} (n : ℕ) (tree : V → Tree) (reads : Tree → Type 0) (value : Tree → V → Type 0) (fits : V → Type 0) → ComesBack tree reads value fits →
    ComesBack (λ v. Group (trees (map tree v))) (IsArray n reads) (λ t v. IsGroup (λ ts. EachIs value ts v) t) (λ v. (length v ≡ n) × AllFit fits v)
array_again n tree reads value fits again v f =
    ((trees (map tree v), refl, counted tree v ∙ f.0, each tree reads fits (λ a k. (again a k).0) v f.1), (trees (map tree v), refl, each_is tree value fits (λ a k. (again a k).1) v f.1))

-- The shape of an array of n elements.
abbrev pub array : {V : Type 0} → ℕ → Shape V → Shape (List V)
array n s = record {
  tree = λ v. Group (trees (map s.tree v));
  refusal = λ v e. Any (λ x. s.refusal x e) v;
  text = s.text;
  reads = IsArray n s.reads;
  value = λ t v. IsGroup (λ ts. EachIs s.value ts v) t;
  same = SameList s.same;
  other = s.other;
  fits = λ v. (length v ≡ n) × AllFit s.fits v;
  delimited = array_delimited n s.reads s.delimited;
  well_formed = array_well_formed n s.reads s.well_formed;
  one_value = λ t v w. group_one (λ ts. each_one s.value s.same s.one_value ts v w) t;
  again = array_again n s.tree s.reads s.value s.fits s.again;
}

-- The tree is a list of at most n trees of the set.
abbrev pub IsFewSeq : ℕ → (Tree → Type 0) → Tree → Type 0
IsFewSeq n reads t = (ts : Trees) × (t ≡ Seq ts) × (count ts ≤ n) × (count ts < 2 ^ 64) × Each reads ts

pub few_seq_inside : (n : ℕ) (reads : Tree → Type 0) (t : Tree) → IsFewSeq n reads t → IsSeq reads t
few_seq_inside n reads t r = (r.0, r.1, r.3, r.4)

-- A list of at most n elements comes back if these do.
pub few_again : {V : Type 0} (n : ℕ) (tree : V → Tree) (reads : Tree → Type 0) (value : Tree → V → Type 0) (fits : V → Type 0) → ComesBack tree reads value fits →
    ComesBack (λ v. Seq (trees (map tree v))) (IsFewSeq n reads) (ListIs value) (λ v. (length v ≤ n) × (length v < 2 ^ 64) × AllFit fits v)
few_again n tree reads value fits again v f =
    let (k, r) = each_read tree reads fits (λ a q. (again a q).0) v f.2 f.1 in
    ((trees (map tree v), refl, subst (λ m. m ≤ n) (sym (counted tree v)) f.0, k, r), (trees (map tree v), refl, each_is tree value fits (λ a q. (again a q).1) v f.2))

-- The shape of a list of at most n elements, with its count before it.
abbrev pub few : {V : Type 0} → ℕ → Shape V → Shape (List V)
few n s = record {
  tree = λ v. Seq (trees (map s.tree v));
  refusal = λ v e. Any (λ x. s.refusal x e) v;
  text = s.text;
  reads = IsFewSeq n s.reads;
  value = ListIs s.value;
  same = SameList s.same;
  other = s.other;
  fits = λ v. (length v ≤ n) × (length v < 2 ^ 64) × AllFit s.fits v;
  delimited = fewer_delimited _ _ (few_seq_inside n s.reads) (seq_delimited s.reads s.delimited);
  well_formed = λ t r. seq_well_formed s.reads s.well_formed t (few_seq_inside n s.reads t r);
  one_value = list_one (λ v. v) s.value s.same s.one_value;
  again = few_again n s.tree s.reads s.value s.fits s.again;
}

-- A list that comes back does so in any order.
pub any_order_again : {V : Type 0} (tree : List V → Tree) (reads : Tree → Type 0) (value : Tree → List V → Type 0) (fits : List V → Type 0) → ComesBack tree reads value fits →
    ComesBack tree reads (λ t vs. (xs : List V) × value t xs × IsPermutation xs vs) fits
any_order_again tree reads value fits again vs f = let k = again vs f in (k.0, (vs, k.1, IsPermutation-refl vs))

-- The shape s of a list, for a type that keeps the elements that it reads in any order.
abbrev pub in_any_order : {V : Type 0} → Shape (List V) → Shape (List V)
in_any_order {V} s = record {
  tree = s.tree;
  refusal = s.refusal;
  text = s.text;
  reads = s.reads;
  value = λ t vs. (xs : List V) × s.value t xs × IsPermutation xs vs;
  same = λ vs ws. (xs : List V) × (ys : List V) × s.same xs ys × IsPermutation xs vs × IsPermutation ys ws;
  other = s.other;
  fits = s.fits;
  delimited = s.delimited;
  well_formed = s.well_formed;
  one_value = λ t vs ws h k. (h.0, k.0, s.one_value t h.0 k.0 h.1 k.1, h.2, k.2);
  again = any_order_again s.tree s.reads s.value s.fits s.again;
}
