-- Lemmas on what is read: options, lists, arrays and maps, as the only tree that the JSON denotes.
use Rattle.std.proofs.Common.{◌≡◌, ℕ, suc, ◌<◌, ◌^◌, Bool, true, false, List, [], ◌∷◌, ◌++◌, map, length, get_or, zero, codes, refl, sym, ap, ap₂, subst, ◌∙◌, arith, ◌⊎◌, inl, inr}
use Rattle.std.specs.Prelude.{Result, Ok, Err, IsErrAnd, MatchResult}
use Rattle.std.proofs.lemmas.Bool.{cases_Bool}
use Rattle.postcard_wire.specs.Tree.{Tree, Trees, NoTrees, Then, trees, count}
use Rattle.postcard_wire.specs.Tree as nodes
use Rattle.postcard_wire.specs.Reading.{Each, IsArray, IsSeq}
use Rattle.postcard_schema.specs.Leaves.{is_signed}
use Rattle.postcard_schema.specs.Meaning.{MessageType, entry_of, option, reads, seq}
use Rattle.postcard_schema.specs.declared.leaf.Integer.{Integer}
use Rattle.postcard_schema.specs.declared.leaf.Leaf.{Leaf}
use Rattle.postcard_schema.specs.declared.leaf.Leaf.TheVariants as leaves
use Rattle.postcard_value.specs.declared.value.Value.{Value}
use Rattle.postcard_value.specs.Tree.{tree}
use Rattle.postcard_value_text.specs.Accepted.{HasDistinctNames}
use Rattle.postcard_value_text.specs.Layout.{Layout, Fields, leaf, list, mapping, tuple, structure, choice, no_layouts, then_layout, no_fields, then_field}
use Rattle.postcard_value_text.specs.Layout as layouts
use Rattle.serde_json.specs.declared.value.Value as json
use Rattle.serde_json.specs.Data.{Data, Items, null, no_items, item}
use Rattle.serde_json.specs.Data as values
use Rattle.serde_json.specs.Events.{items_len}
use Rattle.serde_json.specs.View.{view, items_view}
use Rattle.postcard_value_json.specs.Written.{alone, can_be_null}
use Rattle.postcard_value_json_read.specs.declared.error.JsonError.{JsonError}
use Rattle.postcard_value_json_read.specs.declared.error.JsonError.TheVariants.{OutOfMemory}
use Rattle.postcard_value_json_read.specs.Reading.{Reading, IsEntryJson, IsLeafJson, IsBitsJson, IsOptionJson, IsListJson, IsArrayJson, IsVariantJson, AreItems, IsJsonOf, IsJsonAt}
use Rattle.postcard_value_json_read.proofs.Groups.{same_items}
use Rattle.postcard_value_json_read.proofs.Variants.{same_content}
use Rattle.postcard_value_json_read.specs.Accepted.{Answers, IsBoth, IsEntryReading, IsHeldReading, IsOnly, IsReading}

-- ---- answers

-- A result that has an error of another one is that error.
pub is_err : {V : Type 0} (r : Result V JsonError) (e : JsonError) → IsErrAnd r (λ y. y ≡ e) → r ≡ Err e
is_err (Ok v) e h = absurd h
is_err (Err y) e h = ap Err h

-- A value in an option or a variant, if memory suffices.
pub boxed : (D : Type 0) (R : Reading) (t : Tree) (d : Data) (r : Result Value JsonError) → MatchResult r (λ v. tree v ≡ t) (λ e. e ≡ OutOfMemory) → IsOnly D R t d → Answers D tree R d r
boxed D R t d (Ok v) is h = subst (λ z. IsOnly D R z d) (sym is) h
boxed D R t d (Err e) is h = λ names u r. is

-- Let a part have the trees and the JSON of the whole. Then the answer of the part, with another condition, is that of the whole.
pub answer_by : {T J K : Type 0} (D E : Type 0) (see : Value → T) (R : T → J → Type 0) (S : T → K → Type 0) (d : J) (e : K) (r : Result Value JsonError) → (E → D) → ((t : T) → R t d → S t e) → ((t : T) → S t e → R t d)
    → Answers D see R d r → Answers E see S e r
answer_by D E see R S d e (Ok v) names to from (h, one) = (to (see v) h, λ f u s. one (names f) u (from u s))
answer_by D E see R S d e (Err x) names to from none = λ f u s. none (names f) u (from u s)

-- ---- null

bits_not_null : (signed : Bool) (i : Integer) (n : ℕ) → IsBitsJson signed i n null → ⊥
bits_not_null true i n (z, is, h) = h
bits_not_null false i n (low, h) = h

leaf_not_null : (l : Leaf) (t : Tree) → IsLeafJson l t null → ⊥
leaf_not_null leaves.Bool (nodes.Boolean x) h = cc h
leaf_not_null (leaves.Integer i) t (n, is, h) = bits_not_null (is_signed i) i n h
leaf_not_null (leaves.Float f) t (bits, is, h) = h
leaf_not_null leaves.Char (nodes.Char c) h = cc h
leaf_not_null leaves.Str (nodes.Text u) h = cc h
leaf_not_null leaves.Bytes (nodes.Seq ts) (bytes, s, are, h, decoded) = cc h
leaf_not_null (leaves.Fixed order i) t (n, is, h) = bits_not_null (is_signed i) i n h
leaf_not_null l t h = h

variant_not_null : (n : List ℕ) (x : Layout) (R : Reading) (t : Tree) → IsVariantJson n x R t null → ⊥
variant_not_null n (tuple no_layouts) R t h = cc h.1
variant_not_null n x R t h = cc h.1

choice_not_null : (fs : Fields) (i : ℕ) (t : Tree) → IsJsonAt fs i t null → ⊥
choice_not_null no_fields i t h = h
choice_not_null (then_field n x fs) zero t h = variant_not_null n x (IsJsonOf x) t h
choice_not_null (then_field n x fs) (suc i) t h = choice_not_null fs i t h

-- If the JSON of a type can't be `null`, `null` is read as none of its trees.
not_null : (x : Layout) (t : Tree) → can_be_null x ≡ false → IsJsonOf x t null → ⊥
not_null (leaf l) t b h = leaf_not_null l t h
not_null (layouts.option x) t b h = cc b
not_null (list x) (nodes.Seq ts) b (ds, h, all) = cc h
not_null (mapping x y) (nodes.Seq ts) b (ds, h, all) = cc h
not_null (layouts.array x) (nodes.Group ts) b (ds, h, all) = cc h
not_null (tuple no_layouts) t b h = cc b
not_null (tuple (then_layout x xs)) (nodes.Group ts) b (ds, h, all) = cc h
not_null (structure fs) (nodes.Group ts) b h = h.0
not_null (choice fs) (nodes.Variant i t) b h = choice_not_null fs i t h
not_null x t b h = h

-- ---- options

-- `null` is the JSON of no option with a value.
held_not_null : (x : Layout) (s : Tree) → IsOptionJson (can_be_null x) (IsJsonOf x) (nodes.Present s) null → ⊥
held_not_null x s h = elim (cases_Bool (can_be_null x)) [
  | inl b ↦ let k = subst (λ z. IsOptionJson z (IsJsonOf x) (nodes.Present s) null) b h in cc k.1
  | inr b ↦ not_null x s b (subst (λ z. IsOptionJson z (IsJsonOf x) (nodes.Present s) null) b h)
]

-- What is read as an option: `null` as the absent one, and any other JSON as one with a value.
pub option_form : (m : MessageType) (x : Layout) (u : Tree) (d : Data) → IsReading (option m) (layouts.option x) u d
    → ((u ≡ nodes.Absent) × (d ≡ null)) ⊎ ((s : Tree) × (u ≡ nodes.Present s) × IsHeldReading m x s d)
option_form m x u d (inl is, h) = inl (is, subst (λ z. IsOptionJson (can_be_null x) (IsJsonOf x) z d) is h)
option_form m x u d (inr (s, is, r), h) = inr (s, is, (r, subst (λ z. IsOptionJson (can_be_null x) (IsJsonOf x) z d) is h))

-- `null` is read as the absent option alone.
pub absent_only : (m : MessageType) (x : Layout) (d : Data) → d ≡ null → IsOnly (HasDistinctNames x) (IsReading (option m) (layouts.option x)) nodes.Absent d
absent_only m x d is = ((inl refl, is), λ names u r. by u (option_form m x u d r))
  where
    by : (u : Tree) → ((u ≡ nodes.Absent) × (d ≡ null)) ⊎ ((s : Tree) × (u ≡ nodes.Present s) × IsHeldReading m x s d) → u ≡ nodes.Absent
    by u (inl (same, h)) = same
    by u (inr (s, same, r)) = absurd (held_not_null x s (subst (IsOptionJson (can_be_null x) (IsJsonOf x) (nodes.Present s)) is r.1))

-- JSON that isn't `null` is read as an option only with a value that it is read as.
pub held_form : (m : MessageType) (x : Layout) (u : Tree) (d : Data) → (d ≡ null → ⊥) → IsReading (option m) (layouts.option x) u d → (s : Tree) × (u ≡ nodes.Present s) × IsHeldReading m x s d
held_form m x u d full r = elim (option_form m x u d r) [
  | inl h ↦ absurd (full h.1)
  | inr h ↦ h
]

-- If JSON isn't `null`, the option's only tree has the only tree of the value in it.
pub held_only : (m : MessageType) (x : Layout) (t : Tree) (d : Data) → (d ≡ null → ⊥) → IsOnly (HasDistinctNames x) (IsHeldReading m x) t d
    → IsOnly (HasDistinctNames x) (IsReading (option m) (layouts.option x)) (nodes.Present t) d
held_only m x t d full (h, one) =
    ((inr (t, refl, h.0), h.1), λ names u r. let k = held_form m x u d full r in k.1 ∙ ap nodes.Present (one names k.0 k.2))

-- The value in an option whose JSON may be `null` has the answer of the member `Some`.
pub held_answer : (m : MessageType) (x : Layout) (d e : Data) (r : Result Value JsonError) → can_be_null x ≡ true → d ≡ alone (codes "Some") e
    → Answers (HasDistinctNames x) tree (IsReading m x) e r → Answers (HasDistinctNames x) tree (IsHeldReading m x) d r
held_answer m x d e r may is h =
    let by : Tree → Bool → Type 0 = λ t b. IsOptionJson b (IsJsonOf x) (nodes.Present t) d in
    answer_by (HasDistinctNames x) (HasDistinctNames x) tree (IsReading m x) (IsHeldReading m x) e d r (λ f. f) (λ t k. (k.0, subst (by t) (sym may) (e, is, k.1)))
    (λ t k. let (f, has, one) = subst (by t) may k.1 in (k.0, subst (IsJsonOf x t) (same_content (codes "Some") f e (sym has ∙ is)) one)) h

-- ---- items

-- One item more, whose JSON R relates to its tree.
pub items_more : (R : Reading) (vs : List Value) (js : List json.Value) (v : Value) (j : json.Value) → AreItems R (trees (map tree vs)) (items_view js) → R (tree v) (view j)
    → AreItems R (trees (map tree (vs ++ v ∷ []))) (items_view (js ++ j ∷ []))
items_more R [] [] v j h r = (r, tt)
items_more R (u ∷ us) (k ∷ js) v j h r = (h.0, items_more R us js v j h.1 r)
items_more R vs js v j h r = absurd h

-- Items each of which is read as one tree alone are read as these trees alone.
items_held : (D : Type 0) (R : Reading) (ts : Trees) (ds : Items) → AreItems (IsOnly D R) ts ds → AreItems R ts ds
items_held D R NoTrees no_items h = tt
items_held D R (Then t ts) (item d ds) h = (h.0.0, items_held D R ts ds h.1)
items_held D R ts ds h = absurd h

items_one : (D : Type 0) (R : Reading) (ts us : Trees) (ds : Items) → AreItems (IsOnly D R) ts ds → D → AreItems R us ds → us ≡ ts
items_one D R NoTrees NoTrees no_items h names r = refl
items_one D R NoTrees (Then u us) no_items h names r = absurd r
items_one D R (Then t ts) NoTrees (item d ds) h names r = absurd r
items_one D R (Then t ts) (Then u us) (item d ds) h names r = ap₂ Then (h.0.1 names u r.0) (items_one D R ts us ds h.1 names r.1)
items_one D R ts us ds h names r = absurd h

-- If each item is the only one that its JSON denotes, so are all items together.
pub items_only : (D : Type 0) (R : Reading) (ts : Trees) (ds : Items) → AreItems (IsOnly D R) ts ds → IsOnly D (AreItems R) ts ds
items_only D R ts ds h = (items_held D R ts ds h, λ names us r. items_one D R ts us ds h names r)

-- The item at an index is read.
pub item_at : (R : Reading) (us : Trees) (js : List json.Value) (i : ℕ) (j : json.Value) → AreItems R us (items_view js) → i < length js → j ≡ get_or js i j → (u : Tree) × R u (view j)
item_at R us [] i j h low here = absurd (omega (arith, low))
item_at R NoTrees (k ∷ js) i j h low here = absurd h
item_at R (Then u us) (k ∷ js) zero j h low here = (u, subst (λ z. R u (view z)) (sym here) h.0)
item_at R (Then u us) (k ∷ js) (suc i) j h low here = item_at R us js i j h.1 (omega (arith, low)) here

module _ (P : Tree → Type 0) (R : Reading) where
  items_reads : (ts : Trees) (ds : Items) → AreItems (IsBoth P R) ts ds → Each P ts
  items_reads NoTrees no_items h = tt
  items_reads (Then t ts) (item d ds) h = (h.0.0, items_reads ts ds h.1)
  items_reads ts ds h = absurd h

  items_spelled : (ts : Trees) (ds : Items) → AreItems (IsBoth P R) ts ds → AreItems R ts ds
  items_spelled NoTrees no_items h = tt
  items_spelled (Then t ts) (item d ds) h = (h.0.1, items_spelled ts ds h.1)
  items_spelled ts ds h = absurd h

  items_both : (ts : Trees) (ds : Items) → Each P ts → AreItems R ts ds → AreItems (IsBoth P R) ts ds
  items_both NoTrees no_items each h = tt
  items_both (Then t ts) (item d ds) each h = ((each.0, h.0), items_both ts ds each.1 h.1)
  items_both ts ds each h = absurd h

-- There is one tree for each item.
pub items_count : (R : Reading) (ts : Trees) (ds : Items) → AreItems R ts ds → count ts ≡ items_len ds
items_count R NoTrees no_items h = refl
items_count R (Then t ts) (item d ds) h = ap suc (items_count R ts ds h.1)
items_count R ts ds h = absurd h

-- What is read as a list or as an array, of which the trees of P are the elements and R relates them to JSON.
module _ (P : Tree → Type 0) (R : Reading) where
  pub list_form : (u : Tree) (ds : Items) → IsBoth (IsSeq P) (IsListJson R) u (values.array ds) → (us : Trees) × (u ≡ nodes.Seq us) × AreItems (IsBoth P R) us ds
  list_form u ds ((us, is, few, each), h) = by (subst (λ z. IsListJson R z (values.array ds)) is h)
    where
      by : IsListJson R (nodes.Seq us) (values.array ds) → (vs : Trees) × (u ≡ nodes.Seq vs) × AreItems (IsBoth P R) vs ds
      by (es, same, all) = (us, is, items_both P R us ds each (subst (AreItems R us) (same_items ds es same) all))

  pub list_only : (D : Type 0) (ts : Trees) (ds : Items) → count ts < 2 ^ 64 → IsOnly D (AreItems (IsBoth P R)) ts ds → IsOnly D (IsBoth (IsSeq P) (IsListJson R)) (nodes.Seq ts) (values.array ds)
  list_only D ts ds few (h, one) = (
    ((ts, refl, few, items_reads P R ts ds h), (ds, refl, items_spelled P R ts ds h)),
    λ names u r. let k = list_form u ds r in k.1 ∙ ap nodes.Seq (one names k.0 k.2),
  )

  -- JSON that is no array denotes no list.
  pub list_other : (u : Tree) (d : Data) → ((ds : Items) → d ≡ values.array ds → ⊥) → IsBoth (IsSeq P) (IsListJson R) u d → ⊥
  list_other u d other ((us, is, few, each), h) = by (subst (λ z. IsListJson R z d) is h)
    where
      by : IsListJson R (nodes.Seq us) d → ⊥
      by (es, same, all) = other es same

  pub array_form : (n : ℕ) (u : Tree) (ds : Items) → IsBoth (IsArray n P) (IsArrayJson R) u (values.array ds) → (us : Trees) × (u ≡ nodes.Group us) × (count us ≡ n) × AreItems (IsBoth P R) us ds
  array_form n u ds ((us, is, long, each), h) = by (subst (λ z. IsArrayJson R z (values.array ds)) is h)
    where
      by : IsArrayJson R (nodes.Group us) (values.array ds) → (vs : Trees) × (u ≡ nodes.Group vs) × (count vs ≡ n) × AreItems (IsBoth P R) vs ds
      by (es, same, all) = (us, is, long, items_both P R us ds each (subst (AreItems R us) (same_items ds es same) all))

  pub array_only : (D : Type 0) (n : ℕ) (ts : Trees) (ds : Items) → count ts ≡ n → IsOnly D (AreItems (IsBoth P R)) ts ds → IsOnly D (IsBoth (IsArray n P) (IsArrayJson R)) (nodes.Group ts) (values.array ds)
  array_only D n ts ds long (h, one) = (
    ((ts, refl, long, items_reads P R ts ds h), (ds, refl, items_spelled P R ts ds h)),
    λ names u r. let k = array_form n u ds r in k.1 ∙ ap nodes.Group (one names k.0 k.3),
  )

  pub array_other : (n : ℕ) (u : Tree) (d : Data) → ((ds : Items) → d ≡ values.array ds → ⊥) → IsBoth (IsArray n P) (IsArrayJson R) u d → ⊥
  array_other n u d other ((us, is, long, each), h) = by (subst (λ z. IsArrayJson R z d) is h)
    where
      by : IsArrayJson R (nodes.Group us) d → ⊥
      by (es, same, all) = other es same

-- The entry of a map at an index is read.
pub map_item : (k v : MessageType) (x y : Layout) (u : Tree) (d : Data) (xs js : List json.Value) (i : ℕ) (j : json.Value) → IsReading (seq (entry_of k v)) (mapping x y) u d
    → d ≡ values.array (items_view js) → xs ≡ js → i < length xs → j ≡ get_or xs i j → (w : Tree) × IsEntryReading k x v y w (view j)
map_item k v x y u d xs js i j r form whole low here =
    let g = list_form (reads (entry_of k v)) (IsEntryJson (IsJsonOf x) (IsJsonOf y)) u (items_view js) (subst (IsReading (seq (entry_of k v)) (mapping x y) u) form r) in
    item_at (IsEntryReading k x v y) g.0 xs i j (subst (λ ys. AreItems (IsEntryReading k x v y) g.0 (items_view ys)) (sym whole) g.2) low here

-- ---- what an answer says

-- An answer for JSON that denotes a tree is that tree, or out of memory.
pub answer_accepted : (D : Type 0) (m : MessageType) (x : Layout) (d : Data) (r : Result Value JsonError) → Answers D tree (IsReading m x) d r → D → (t : Tree) → reads m t → IsJsonOf x t d
    → MatchResult r (λ v. t ≡ tree v) (λ e. e ≡ OutOfMemory)
answer_accepted D m x d (Ok v) h names t r spelled = h.1 names t (r, spelled)
answer_accepted D m x d (Err e) h names t r spelled = h names t (r, spelled)
