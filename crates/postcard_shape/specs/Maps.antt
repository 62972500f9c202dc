-- The shapes of sets and maps (wire format 1.0, "seq" and "map"). They are lists of keys or entries in
-- the order of their keys. Where keys are found by their hashes, the lists have an order of their own.
use Rattle.std.proofs.Common.{refl}
use Rattle.std.specs.BTreeMap.{insert_entry}
use Rattle.std.specs.BTreeSet.{insert_key}
use Rattle.std.specs.Bool.{MatchBool}
use Rattle.std.specs.List.{list_any}
use Rattle.std.specs.List.Sorted.{IsPermutation}
use Rattle.std.specs.Map.{lookup, set_value}
use Rattle.std.specs.Prelude.{◌≡◌, ◌<◌, ◌^◌, List, [], ◌∷◌, length, map, Any, ◌⊎◌, Bool, MatchOption}
use Rattle.std.specs.declared.cmp.Ordering.{Ordering}
use Rattle.postcard_wire.proofs.Delimited.{seq_delimited, end_delimited, then_delimited, group_delimited}
use Rattle.postcard_wire.proofs.WellFormed.{seq_well_formed, end_well_formed, then_well_formed, group_well_formed}
use Rattle.postcard_wire.specs.Reading.{IsSeq, IsEnd, IsThen, IsGroup}
use Rattle.postcard_wire.specs.Tree.{Tree, Seq, trees, NoTrees, Then}
use Rattle.postcard_shape.specs.Lists.{AllFit, each_read, each_is, SameList, list_one, ListIs}
use Rattle.postcard_shape.specs.Rows.{end_one, then_one, group_one, none, then, along, group, pair_tree}
use Rattle.postcard_shape.specs.Shape.{ComesBack, HasOne, Shape, or_memory, either}

-- The keys of a set after these keys are inserted one after another: a key that is equal to one of
-- the set changes nothing.
abbrev pub keys_inserted : {A : Type 0} → (A → A → Ordering) → List A → List A → List A
keys_inserted cmp [] keys = keys
keys_inserted cmp (x ∷ xs) keys = keys_inserted cmp xs (insert_key cmp keys x)

-- The keys are those that inserting the elements of the list makes, in the order of the list.
abbrev pub SetIs : {A : Type 0} → (A → A → Ordering) → (Tree → A → Type 0) → Tree → List A → Type 0
SetIs {A} cmp value t keys = (xs : List A) × ListIs value t xs × (keys ≡ keys_inserted cmp xs [])

-- Two sets are each made of elements that look alike, one by one.
abbrev pub SameSet : {A : Type 0} → (A → A → Ordering) → (A → A → Type 0) → List A → List A → Type 0
SameSet {A} cmp same ks ls = (xs : List A) × (ys : List A) × SameList same xs ys × (ks ≡ keys_inserted cmp xs []) × (ls ≡ keys_inserted cmp ys [])

-- The sets of one tree look alike if the elements of one tree do.
pub set_one : {A : Type 0} (cmp : A → A → Ordering) (value : Tree → A → Type 0) (same : A → A → Type 0) → HasOne value same → HasOne (SetIs cmp value) (SameSet cmp same)
set_one {A} cmp value same one t ks ls (xs, h, a) (ys, k, b) = (xs, ys, list_one (λ (x : List A). x) value same one t xs ys h k, a, b)

-- A set comes back if its keys do.
pub keys_again : {A : Type 0} (cmp : A → A → Ordering) (tree : A → Tree) (reads : Tree → Type 0) (value : Tree → A → Type 0) (fits : A → Type 0) → ComesBack tree reads value fits →
    ComesBack (λ ks. Seq (trees (map tree ks))) (IsSeq reads) (SetIs cmp value) (λ ks. (length ks < 2 ^ 64) × AllFit fits ks × (ks ≡ keys_inserted cmp ks []))
keys_again cmp tree reads value fits again ks f =
    let (n, r) = each_read tree reads fits (λ a k. (again a k).0) ks f.1 f.0 in
    ((trees (map tree ks), refl, n, r), (ks, (trees (map tree ks), refl, each_is tree value fits (λ a k. (again a k).1) ks f.1), f.2))

-- The shape of a set, seen as the list of its keys.
abbrev pub keys : {A : Type 0} → (A → A → Ordering) → Shape A → Shape (List A)
keys cmp s = record {
  tree = λ ks. Seq (trees (map s.tree ks));
  refusal = λ ks e. Any (λ k. s.refusal k e) ks;
  text = s.text;
  reads = IsSeq s.reads;
  value = SetIs cmp s.value;
  same = SameSet cmp s.same;
  other = or_memory s.other;
  fits = λ ks. (length ks < 2 ^ 64) × AllFit s.fits ks × (ks ≡ keys_inserted cmp ks []);
  delimited = seq_delimited s.reads s.delimited;
  well_formed = seq_well_formed s.reads s.well_formed;
  one_value = set_one cmp s.value s.same s.one_value;
  again = keys_again cmp s.tree s.reads s.value s.fits s.again;
}

-- The tree of a map's entry: the key, followed by the value.
abbrev pub entry_tree : {K V : Type 0} → (K → Tree) → (V → Tree) → K × V → Tree
entry_tree f g e = pair_tree (f e.0) (g e.1)

-- The tree is a group of a key and a value (wire format 1.0, "map").
abbrev pub IsEntry : (Tree → Type 0) → (Tree → Type 0) → Tree → Type 0
IsEntry keys values = IsGroup (IsThen keys (IsThen values IsEnd))

-- The pair is a key and a value of the tree of an entry.
abbrev pub EntryIs : {A B : Type 0} → (Tree → A → Type 0) → (Tree → B → Type 0) → Tree → A × B → Type 0
EntryIs keys values t e = IsGroup (IsThen (λ s. keys s e.0) (IsThen (λ s. values s e.1) IsEnd)) t

-- The entries of a map after the pairs are inserted one after another: a later value replaces that
-- of an equal key.
abbrev pub inserted : {A B : Type 0} → (A → A → Ordering) → List (A × B) → List (A × B) → List (A × B)
inserted cmp [] entries = entries
inserted cmp (p ∷ ps) entries = inserted cmp ps (insert_entry cmp entries p.0 p.1)

-- The entries are those that inserting the pairs of the list makes, in the order of the list.
abbrev pub MapIs : {A B : Type 0} → (A → A → Ordering) → (Tree → A → Type 0) → (Tree → B → Type 0) → Tree → List (A × B) → Type 0
MapIs {A} {B} cmp keys values t entries = (pairs : List (A × B)) × ListIs (EntryIs keys values) t pairs × (entries ≡ inserted cmp pairs [])

-- Two pairs look alike: their keys do, and their values do.
abbrev pub SameEntry : {A B : Type 0} → (A → A → Type 0) → (B → B → Type 0) → A × B → A × B → Type 0
SameEntry keys values p q = keys p.0 q.0 × (values p.1 q.1 × Unit {0})

-- Two maps are each made of pairs that look alike, one by one.
abbrev pub SameMap : {A B : Type 0} → (A → A → Ordering) → (A → A → Type 0) → (B → B → Type 0) → List (A × B) → List (A × B) → Type 0
SameMap {A} {B} cmp keys values es fs = (ps : List (A × B)) × (qs : List (A × B)) × SameList (SameEntry keys values) ps qs × (es ≡ inserted cmp ps []) × (fs ≡ inserted cmp qs [])

-- The pairs of one tree look alike if the keys of one tree do and the values of one tree do.
pub entry_one : {A B : Type 0} (I : Tree → A → Type 0) (J : Tree → B → Type 0) (same : A → A → Type 0) (other : B → B → Type 0) → HasOne I same → HasOne J other → HasOne (EntryIs I J) (SameEntry same other)
entry_one I J same other one two t v w = group_one (then_one one (then_one two end_one)) t

-- The maps of one tree look alike if the keys of one tree do and the values of one tree do.
pub map_one : {A B M : Type 0} (see : M → List (A × B)) (cmp : A → A → Ordering) (I : Tree → A → Type 0) (J : Tree → B → Type 0) (same : A → A → Type 0) (other : B → B → Type 0) → HasOne I same → HasOne J other →
    HasOne (λ t m. MapIs cmp I J t (see m)) (λ m n. SameMap cmp same other (see m) (see n))
map_one {A} {B} see cmp I J same other one two t m n (ps, h, a) (qs, k, b) = (ps, qs, list_one (λ (x : List (A × B)). x) (EntryIs I J) (SameEntry same other) (entry_one I J same other one two) t ps qs h k, a, b)

-- A map comes back if its keys and its values do.
pub map_again : {A B : Type 0} (cmp : A → A → Ordering) (tree : A → Tree) (I : Tree → Type 0) (J : Tree → A → Type 0) (fits : A → Type 0) → ComesBack tree I J fits →
    (of : B → Tree) (K : Tree → Type 0) (L : Tree → B → Type 0) (fit : B → Type 0) → ComesBack of K L fit →
    ComesBack (λ es. Seq (trees (map (entry_tree tree of) es))) (IsSeq (IsEntry I K)) (MapIs cmp J L) (λ es. (length es < 2 ^ 64) × AllFit (λ e. fits e.0 × fit e.1) es × (es ≡ inserted cmp es []))
map_again {A} {B} cmp tree I J fits keys of K L fit values es (n, f, e) =
    let both = λ (x : A × B). fits x.0 × fit x.1 in
    let pairs = entry_tree tree of in
    let (a, r) = each_read pairs (IsEntry I K) both (λ x q. (Then (tree x.0) (Then (of x.1) NoTrees), refl, (tree x.0, Then (of x.1) NoTrees, refl, (keys x.0 q.0).0, (of x.1, NoTrees, refl, (values x.1 q.1).0, refl)))) es f n in (
      (trees (map pairs es), refl, a, r),
      (es, (trees (map pairs es), refl, each_is pairs (EntryIs J L) both (λ x q. (Then (tree x.0) (Then (of x.1) NoTrees), refl, (tree x.0, Then (of x.1) NoTrees, refl, (keys x.0 q.0).1, (of x.1, NoTrees, refl, (values x.1 q.1).1, refl)))) es f), e),
    )

-- The shape of a map, seen as the list of its entries.
abbrev pub entries : {A B : Type 0} → (A → A → Ordering) → Shape A → Shape B → Shape (List (A × B))
entries cmp k s = record {
  tree = λ m. Seq (trees (map (entry_tree k.tree s.tree) m));
  refusal = λ m e. Any (λ x. k.refusal x.0 e ⊎ s.refusal x.1 e) m;
  text = k.text ⊎ s.text;
  reads = IsSeq (IsEntry k.reads s.reads);
  value = MapIs cmp k.value s.value;
  same = SameMap cmp k.same s.same;
  other = or_memory (either k.other s.other);
  fits = λ es. (length es < 2 ^ 64) × AllFit (λ e. k.fits e.0 × s.fits e.1) es × (es ≡ inserted cmp es []);
  delimited = seq_delimited _ (group_delimited _ (then_delimited _ _ k.delimited (then_delimited _ _ s.delimited end_delimited)));
  well_formed = seq_well_formed _ (group_well_formed _ (then_well_formed _ _ k.well_formed (then_well_formed _ _ s.well_formed end_well_formed)));
  one_value = map_one (λ m. m) cmp k.value s.value k.same s.same k.one_value s.one_value;
  again = map_again cmp k.tree k.reads k.value k.fits k.again s.tree s.reads s.value s.fits s.again;
}

-- Putting these elements one after another into a container of the elements vs gives one of ws.
-- `step x us ts` says that putting x into one of us gives one of ts.
abbrev pub Puts : {V : Type 0} → (V → List V → List V → Type 0) → List V → List V → List V → Type 0
Puts step [] vs ws = ws ≡ vs
Puts {V} step (x ∷ xs) vs ws = (us : List V) × step x vs us × Puts step xs us ws

-- A key is put into a set: it joins the others somewhere, unless it is equal to one of them.
abbrev pub PutsKey : {A : Type 0} → (A → A → Bool) → A → List A → List A → Type 0
PutsKey eq k ks ls = MatchBool (list_any (eq k) ks) (ls ≡ ks) (IsPermutation (k ∷ ks) ls)

-- A pair is put into a map: it joins the entries somewhere, or its value replaces that of an equal key.
abbrev pub PutsPair : {A B : Type 0} → (A → A → Bool) → A × B → List (A × B) → List (A × B) → Type 0
PutsPair eq p es fs = MatchOption (lookup (eq p.0) es) (IsPermutation (p ∷ es) fs) (λ _. fs ≡ set_value (eq p.0) es p.1)

-- The shape of a pair, as of the tuple of two parts.
abbrev pub pair : {A B : Type 0} → Shape A → Shape B → Shape (A × B)
pair k v = group (along (λ e. (e.0, (e.1, tt))) (then k (then v (none {V = Unit {0}}))))

-- A container comes back if the list does whose elements are put into it.
pub put_again : {V : Type 0} (step : V → List V → List V → Type 0) (tree : List V → Tree) (reads : Tree → Type 0) (value : Tree → List V → Type 0) (fits : List V → Type 0) → ComesBack tree reads value fits →
    ComesBack tree reads (λ t vs. (xs : List V) × value t xs × Puts step xs [] vs) (λ vs. fits vs × Puts step vs [] vs)
put_again step tree reads value fits again vs f = let k = again vs f.0 in (k.0, (vs, k.1, f.1))

-- The shape of a container into which the elements of a list of the shape s are put one after another.
abbrev pub put_in : {V : Type 0} → (V → List V → List V → Type 0) → Shape (List V) → Shape (List V)
put_in {V} step s = record {
  tree = s.tree;
  refusal = s.refusal;
  text = s.text;
  reads = s.reads;
  value = λ t vs. (xs : List V) × s.value t xs × Puts step xs [] vs;
  same = λ vs ws. (xs : List V) × (ys : List V) × s.same xs ys × Puts step xs [] vs × Puts step ys [] ws;
  other = or_memory s.other;
  fits = λ vs. s.fits vs × Puts step vs [] vs;
  delimited = s.delimited;
  well_formed = s.well_formed;
  one_value = λ t vs ws h k. (h.0, k.0, s.one_value t h.0 k.0 h.1 k.1, h.2, k.2);
  again = put_again step s.tree s.reads s.value s.fits s.again;
}
