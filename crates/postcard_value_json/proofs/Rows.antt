-- Lemmas on the JSON of values in a row: lists, maps, tuples and structs.
use Rattle.std.proofs.Common.{◌≡◌, ℕ, zero, suc, ◌+◌, ◌<◌, ◌≤◌, true, false, List, [], ◌∷◌, ◌++◌, map, length, take, get_or, Option, Some, None, option_map, Vec, Global, string_bytes, refl, sym, ap, ap₂, ◌∙◌, add-one, take_all, arith}
use Rattle.std.specs.Prelude.{option_and_then, is_some}
use Rattle.std.specs.Bool.{◌==◌}
use Rattle.std.proofs.Math.Dec.{eqb-suc-zero}
use Rattle.std.proofs.lemmas.List.{map-append}
use Rattle.postcard_wire.specs.Tree.{Tree, Trees, NoTrees, trees}
use Rattle.postcard_wire.specs.Tree as nodes
use Rattle.postcard_schema.specs.declared.schema.Named.{Named}
use Rattle.postcard_schema.specs.declared.schema.Schema.{Schema}
use Rattle.postcard_value.specs.Tree.{tree}
use Rattle.postcard_value.specs.declared.value.Value.{Value}
use Rattle.postcard_value_text.specs.Layout.{fields_of, layout_of, layouts_of}
use Rattle.postcard_value_text.proofs.Layouts.{pair_trees}
use Rattle.serde_json.specs.declared.value.Value as json
use Rattle.serde_json.specs.Data.{Data, Members, put}
use Rattle.serde_json.specs.Data as values
use Rattle.serde_json.specs.Find.{get_member}
use Rattle.serde_json.specs.View.{view, items_view}
use Rattle.serde_json.proofs.Views.{view-Array}
use Rattle.postcard_value_json.specs.Written.{Writer, FieldWriter, json_of, json_at, all_json, each_json, entry_json, items_json, members_json, parts_json, fields_json, add_member, row, writers, field_writers, variant_json, parts_row}

-- The elements of a list after one of them.
abbrev with_first : Option (List Data) → Data → Option (List Data)
with_first r d = option_map (λ ds. d ∷ ds) r

pub some_is : {A : Type 0} (x y : A) → Some x ≡ Some y → x ≡ y
some_is x y e = cc

-- ---- lists and tuples

-- One part more of a tuple adds its JSON.
pub each_more : {S X : Type 0} (part : S → Writer) (see : X → Tree) (ss : List S) (vs : List X) (i : ℕ) (s : S) (v : X) (ds : List Data) (d : Data)
    → i < length ss → i < length vs → s ≡ get_or ss i s → v ≡ get_or vs i v
    → each_json (map part (take i ss)) (trees (map see (take i vs))) ≡ Some ds → part s (see v) ≡ Some d
    → each_json (map part (take (suc i) ss)) (trees (map see (take (suc i) vs))) ≡ Some (ds ++ d ∷ [])
each_more part see [] vs i s v ds d few low is here e f = absurd (omega (arith, few))
each_more part see (r ∷ ss) [] i s v ds d few low is here e f = absurd (omega (arith, low))
each_more part see (r ∷ ss) (u ∷ us) zero s v ds d few low is here e f =
    let none : [] ≡ ds = some_is [] ds e in
    let first : part r (see u) ≡ Some d = ap₂ (λ z x. part z (see x)) (sym is) (sym here) ∙ f in
    ap (option_and_then (with_first (Some []))) first ∙ ap (λ xs. Some (xs ++ d ∷ [])) none
each_more part see (r ∷ ss) (u ∷ us) (suc i) s v ds d few low is here e f =
    by (λ xs h. each_more part see ss us i s v xs d (omega (arith, few)) (omega (arith, low)) is here h f) (part r (see u)) refl (each_json (map part (take i ss)) (trees (map see (take i us)))) refl e
  where
    by : ((xs : List Data) → each_json (map part (take i ss)) (trees (map see (take i us))) ≡ Some xs → each_json (map part (take (suc i) ss)) (trees (map see (take (suc i) us))) ≡ Some (xs ++ d ∷ []))
        → (o : Option Data) → part r (see u) ≡ o → (q : Option (List Data)) → each_json (map part (take i ss)) (trees (map see (take i us))) ≡ q → option_and_then (with_first q) o ≡ Some ds
        → each_json (map part (take (suc (suc i)) (r ∷ ss))) (trees (map see (take (suc (suc i)) (u ∷ us)))) ≡ Some (ds ++ d ∷ [])
    by next None po q qo whole = cc whole
    by next (Some x) po None qo whole = cc whole
    by next (Some x) po (Some xs) qo whole =
        let same : x ∷ xs ≡ ds = some_is (x ∷ xs) ds whole in
        let rest = next xs qo in
        ap (option_and_then (with_first (each_json (map part (take (suc i) ss)) (trees (map see (take (suc i) us)))))) po ∙ ap (λ q. with_first q x) rest ∙ ap (λ ys. Some (ys ++ d ∷ [])) same

-- A list is a tuple whose parts all have one type.
abbrev same_part : {X : Type 0} → Writer → X → Writer
same_part p v = p

each_all : {X : Type 0} (p : Writer) (see : X → Tree) (vs : List X) → each_json (map (same_part p) vs) (trees (map see vs)) ≡ all_json p (trees (map see vs))
each_all p see [] = refl
each_all p see (v ∷ vs) = ap (λ r. option_and_then (with_first r) (p (see v))) (each_all p see vs)

-- One element more of a list adds its JSON.
pub all_more : {X : Type 0} (p : Writer) (see : X → Tree) (vs : List X) (i : ℕ) (v : X) (ds : List Data) (d : Data) → i < length vs → v ≡ get_or vs i v
    → all_json p (trees (map see (take i vs))) ≡ Some ds → p (see v) ≡ Some d → all_json p (trees (map see (take (suc i) vs))) ≡ Some (ds ++ d ∷ [])
all_more p see vs i v ds d low here e f =
    sym (each_all p see (take (suc i) vs)) ∙ each_more (same_part p) see vs vs i v v ds d low low here here (each_all p see (take i vs) ∙ e) f

-- The JSON of one value more.
pub list_more : (p : Writer) (vs : List Value) (i : ℕ) (v : Value) (js : List json.Value) (j : json.Value) → i < length vs → v ≡ get_or vs i v
    → all_json p (trees (map tree (take i vs))) ≡ Some (map view js) → Some (view j) ≡ p (tree v)
    → all_json p (trees (map tree (take (i + 1) vs))) ≡ Some (map view (js ++ j ∷ []))
list_more p vs i v js j low here so found =
    rw (add-one i) (all_more p tree vs i v (map view js) (view j) low here so (sym found) ∙ ap Some (sym (map-append view js (j ∷ []))))

-- The JSON of all values is the array.
pub list_whole : (p : Writer) (us vs : List Value) (i : ℕ) (a : Vec json.Value Global) → length us ≤ i → us ≡ vs → all_json p (trees (map tree (take i us))) ≡ Some (map view a.items)
    → Some (view (json.Array a)) ≡ items_json p (trees (map tree vs))
list_whole p us vs i a all same so =
    ap Some (view-Array a) ∙ sym (ap (option_map row) (ap (λ ws. all_json p (trees (map tree ws))) (sym (take_all i us all ∙ same)) ∙ so))

-- An entry of a map is an array of two.
pub entry_whole : (key content : Writer) (vs : List Value) (u v : Value) (j k : json.Value) (a : Vec json.Value Global) → length vs ≡ 2 → u ≡ get_or vs 0 u → v ≡ get_or vs 1 v
    → Some (view j) ≡ key (tree u) → Some (view k) ≡ content (tree v) → a.items ≡ j ∷ k ∷ []
    → Some (view (json.Array a)) ≡ entry_json key content (nodes.Group (trees (map tree vs)))
entry_whole key content vs u v j k a two first second x y is =
    rw (pair_trees tree vs u v two first second, sym x, sym y) (ap Some (view-Array a ∙ ap (λ js. values.array (items_view js)) is))

-- The writer of each schema.
abbrev pub writer_of : Schema → Writer
writer_of s = json_of (layout_of s)

pub writers_map : (ss : List Schema) → writers (layouts_of ss) ≡ map writer_of ss
writers_map [] = refl
writers_map (s ∷ ss) = ap (λ ps. writer_of s ∷ ps) (writers_map ss)

-- A tuple with parts is an array, and one without is `null`.
pub row_full : (js : List json.Value) → (length js == 0) ≡ false → parts_row (map view js) ≡ values.array (items_view js)
row_full [] e = cc e
row_full (j ∷ js) e = refl

pub row_none : (js : List json.Value) → (length js == 0) ≡ true → parts_row (map view js) ≡ values.null
row_none [] e = refl
row_none (j ∷ js) e = cc (sym (eqb-suc-zero (length js)) ∙ e)

-- The JSON of all parts in a row is that of the tuple.
pub parts_whole : (ss : List Schema) (us vs : List Value) (i : ℕ) (ds : List Data) → length ss ≤ i → length us ≤ i → us ≡ vs
    → each_json (map writer_of (take i ss)) (trees (map tree (take i us))) ≡ Some ds → parts_json (writers (layouts_of ss)) (trees (map tree vs)) ≡ Some (parts_row ds)
parts_whole ss us vs i ds few all same so =
    ap (λ ps. parts_json ps (trees (map tree vs))) (writers_map ss)
    ∙ ap (option_map parts_row) (ap₂ (λ a b. each_json (map writer_of a) (trees (map tree b))) (sym (take_all i ss few)) (sym (take_all i us all ∙ same)) ∙ so)

-- ---- structs

-- What the other fields add after one of them.
abbrev fields_after : List FieldWriter → Trees → List ℕ → Members → Data → Option Members
fields_after fs ts n a d = option_and_then (members_json fs ts) (add_member n d a)

-- One field more of a struct adds its member.
pub members_more : {S X : Type 0} (field : S → FieldWriter) (see : X → Tree) (ss : List S) (vs : List X) (i : ℕ) (s : S) (v : X) (a b c : Members) (d : Data)
    → i < length ss → i < length vs → s ≡ get_or ss i s → v ≡ get_or vs i v
    → members_json (map field (take i ss)) (trees (map see (take i vs))) a ≡ Some b → (field s).1 (see v) ≡ Some d → add_member (field s).0 d b ≡ Some c
    → members_json (map field (take (suc i) ss)) (trees (map see (take (suc i) vs))) a ≡ Some c
members_more field see [] vs i s v a b c d few low is here e f g = absurd (omega (arith, few))
members_more field see (r ∷ ss) [] i s v a b c d few low is here e f g = absurd (omega (arith, low))
members_more field see (r ∷ ss) (u ∷ us) zero s v a b c d few low is here e f g =
    let same : a ≡ b = some_is a b e in
    let first : (field r).1 (see u) ≡ Some d = ap₂ (λ z x. (field z).1 (see x)) (sym is) (sym here) ∙ f in
    let next : add_member (field r).0 d a ≡ Some c = ap₂ (λ z x. add_member (field z).0 d x) (sym is) same ∙ g in
    ap (option_and_then (fields_after [] NoTrees (field r).0 a)) first ∙ ap (option_and_then (members_json [] NoTrees)) next
members_more field see (r ∷ ss) (u ∷ us) (suc i) s v a b c d few low is here e f g =
    by (λ y h. members_more field see ss us i s v y b c d (omega (arith, few)) (omega (arith, low)) is here h f g) ((field r).1 (see u)) refl e
  where
    after : ((y : _) → members_json (map field (take i ss)) (trees (map see (take i us))) y ≡ Some b
        → members_json (map field (take (suc i) ss)) (trees (map see (take (suc i) us))) y ≡ Some c)
        → (q : Option _) → option_and_then (members_json (map field (take i ss)) (trees (map see (take i us)))) q ≡ Some b
        → option_and_then (members_json (map field (take (suc i) ss)) (trees (map see (take (suc i) us)))) q ≡ Some c
    after next None whole = cc whole
    after next (Some y) whole = next y whole

    by : ((y : _) → members_json (map field (take i ss)) (trees (map see (take i us))) y ≡ Some b
        → members_json (map field (take (suc i) ss)) (trees (map see (take (suc i) us))) y ≡ Some c)
        → (o : Option Data) → (field r).1 (see u) ≡ o → option_and_then (fields_after (map field (take i ss)) (trees (map see (take i us))) (field r).0 a) o ≡ Some b
        → members_json (map field (take (suc (suc i)) (r ∷ ss))) (trees (map see (take (suc (suc i)) (u ∷ us)))) a ≡ Some c
    by next None po whole = cc whole
    by next (Some x) po whole =
        ap (option_and_then (fields_after (map field (take (suc i) ss)) (trees (map see (take (suc i) us))) (field r).0 a)) po
        ∙ after next (add_member (field r).0 x a) whole

-- The name and the writer of each field.
abbrev pub field_writer : Named Schema → FieldWriter
field_writer n = (string_bytes n.name, json_of (layout_of n.content))

pub fields_map : (ns : List (Named Schema)) → field_writers (fields_of ns) ≡ map field_writer ns
fields_map [] = refl
fields_map (n ∷ ns) = ap (λ fs. field_writer n ∷ fs) (fields_map ns)

-- The members of all fields are those of the struct.
pub fields_whole : (ns : List (Named Schema)) (us vs : List Value) (i : ℕ) (done : Members) → length ns ≤ i → length us ≤ i → us ≡ vs
    → members_json (map field_writer (take i ns)) (trees (map tree (take i us))) values.no_members ≡ Some done → fields_json (field_writers (fields_of ns)) (trees (map tree vs)) ≡ Some (values.object done)
fields_whole ns us vs i done few all same so =
    ap (λ fs. fields_json fs (trees (map tree vs))) (fields_map ns)
    ∙ ap (option_map values.object) (ap₂ (λ a b. members_json (map field_writer a) (trees (map tree b)) values.no_members) (sym (take_all i ns few)) (sym (take_all i us all ∙ same)) ∙ so)

-- A member whose name is new is added.
pub not_there : (n : List ℕ) (d : Data) (ms : Members) → is_some (get_member n ms) ≡ false → add_member n d ms ≡ Some (put n d ms)
not_there n d ms e = rw e refl

pub still_some : {A B : Type 0} (f : A → B) (o : Option A) → is_some (option_map f o) ≡ is_some o
still_some f None = refl
still_some f (Some x) = refl

-- ---- variants

-- The JSON of a variant, at its index.
pub variant_at : (ns : List (Named Schema)) (i : ℕ) (n : Named Schema) → i < length ns → n ≡ get_or ns i n
    → json_at (fields_of ns) i ≡ variant_json (string_bytes n.name) (layout_of n.content) (json_of (layout_of n.content))
variant_at [] i n low is = absurd (omega (arith, low))
variant_at (x ∷ xs) zero n low is = ap (λ z. variant_json (string_bytes z.name) (layout_of z.content) (json_of (layout_of z.content))) (sym is)
variant_at (x ∷ xs) (suc i) n low is = variant_at xs i n (omega (arith, low)) is
