-- Lemmas on tuples, structs and entries of maps that are read, as the only trees that the JSON denotes.
use Rattle.std.proofs.Common.{◌≡◌, ℕ, zero, suc, ◌<◌, List, [], ◌∷◌, ◌++◌, map, length, get_or, Some, string_bytes, refl, sym, ap, ap₂, subst, ◌∙◌, arith}
use Rattle.postcard_wire.specs.Tree.{Tree, Trees, NoTrees, Then, trees}
use Rattle.postcard_wire.specs.Tree as nodes
use Rattle.postcard_schema.specs.Meaning.{MessageType, contents, group, reads_all, type_of, types_of}
use Rattle.postcard_schema.specs.declared.schema.Named.{Named}
use Rattle.postcard_schema.specs.declared.schema.Schema.{Schema}
use Rattle.postcard_value.specs.declared.value.Value.{Value}
use Rattle.postcard_value.specs.Tree.{tree}
use Rattle.postcard_value_text.specs.Accepted.{AreNamed, HasDistinctNames, HaveDistinctNames}
use Rattle.postcard_value_text.specs.Layout.{Layout, no_layouts, fields_of, layout_of, layouts_of}
use Rattle.postcard_value_text.specs.Layout as layouts
use Rattle.serde_json.specs.declared.value.Value as json
use Rattle.serde_json.specs.Data.{Data, Items, null, no_items, item}
use Rattle.serde_json.specs.Data as values
use Rattle.serde_json.specs.Events.{items_len}
use Rattle.serde_json.specs.Find.{get}
use Rattle.serde_json.specs.View.{view, items_view}
use Rattle.postcard_value_json_read.specs.Reading.{Reading, IsJsonOf, IsEntryJson, IsTupleJson, IsStructJson, AreParts, AreFields, HasMembers, fields_len, pair}
use Rattle.postcard_value_json_read.specs.Accepted.{IsOnly, IsReading, IsEntryReading, IsMemberReading, entry_tree, ArePartsReading, AreFieldsReading}

pub some_is : {A : Type 0} (x y : A) → Some x ≡ Some y → x ≡ y
some_is x y e = cc

pub same_items : (ds es : Items) → values.array ds ≡ values.array es → es ≡ ds
same_items ds es is = cc is

-- ---- the parts of a tuple

-- Each item is read as the tree of the value, as one of the schema, alone.
abbrev pub ArePartsOnly : List Schema → List Value → List json.Value → Type 0
ArePartsOnly [] [] [] = Unit {0}
ArePartsOnly (s ∷ ss) (v ∷ vs) (j ∷ js) = IsOnly (HasDistinctNames (layout_of s)) (IsReading (type_of s) (layout_of s)) (tree v) (view j) × ArePartsOnly ss vs js
ArePartsOnly ss vs js = ⊥

-- One part more that is the only one that its item denotes.
pub parts_more : (ss : List Schema) (vs : List Value) (js : List json.Value) (s : Schema) (v : Value) (j : json.Value) → ArePartsOnly ss vs js
    → IsOnly (HasDistinctNames (layout_of s)) (IsReading (type_of s) (layout_of s)) (tree v) (view j) → ArePartsOnly (ss ++ s ∷ []) (vs ++ v ∷ []) (js ++ j ∷ [])
parts_more [] [] [] s v j h one = (one, tt)
parts_more (r ∷ ss) (u ∷ us) (k ∷ js) s v j h one = (h.0, parts_more ss us js s v j h.1 one)
parts_more ss vs js s v j h one = absurd h

-- The parts that were read are those of the JSON.
parts_read : (ss : List Schema) (vs : List Value) (js : List json.Value) → ArePartsOnly ss vs js → ArePartsReading (types_of ss) (layouts_of ss) (trees (map tree vs)) (items_view js)
parts_read [] [] [] h = (refl, tt)
parts_read (s ∷ ss) (v ∷ vs) (j ∷ js) h = let k = parts_read ss vs js h.1 in ((tree v, trees (map tree vs), refl, h.0.0.0, k.0), (h.0.0.1, k.1))
parts_read ss vs js h = absurd h

-- The JSON has no other parts than those that were read.
parts_one : (ss : List Schema) (vs : List Value) (js : List json.Value) (us : Trees) → ArePartsOnly ss vs js → HaveDistinctNames (layouts_of ss)
    → reads_all (types_of ss) us → AreParts (layouts_of ss) us (items_view js) → us ≡ trees (map tree vs)
parts_one [] [] js us h names r spelled = r
parts_one (s ∷ ss) (v ∷ vs) (j ∷ js) us h names (u, more, is, first, rest) spelled =
    let all = subst (λ z. AreParts (layouts_of (s ∷ ss)) z (items_view (j ∷ js))) is spelled in
    is ∙ ap₂ Then (h.0.1 names.0 u (first, all.0)) (parts_one ss vs js more h.1 names.1 rest all.1)
parts_one ss vs js us h names r spelled = absurd h

-- The parts that were read are the only ones that the items denote.
pub parts_only : (ss : List Schema) (vs : List Value) (js : List json.Value) → ArePartsOnly ss vs js
    → IsOnly (HaveDistinctNames (layouts_of ss)) (ArePartsReading (types_of ss) (layouts_of ss)) (trees (map tree vs)) (items_view js)
parts_only ss vs js h = (parts_read ss vs js h, λ names us r. parts_one ss vs js us h names r.0 r.1)

-- The item at an index is read, and the schema there has distinct names.
pub part_at : (ss : List Schema) (us : Trees) (js : List json.Value) (i : ℕ) (s : Schema) (j : json.Value) → ArePartsReading (types_of ss) (layouts_of ss) us (items_view js)
    → i < length ss → s ≡ get_or ss i s → j ≡ get_or js i j → (u : Tree) × IsReading (type_of s) (layout_of s) u (view j)
part_at [] us js i s j h low here there = absurd (omega (arith, low))
part_at (z ∷ ss) us [] i s j ((u, more, is, first, rest), h) low here there = absurd (subst (λ y. AreParts (layouts_of (z ∷ ss)) y no_items) is h)
part_at (z ∷ ss) us (k ∷ js) zero s j ((u, more, is, first, rest), h) low here there =
    let all = subst (λ y. AreParts (layouts_of (z ∷ ss)) y (items_view (k ∷ js))) is h in
    (u, subst (λ y. IsReading (type_of s) (layout_of s) u (view y)) (sym there) (subst (λ y. IsReading (type_of y) (layout_of y) u (view k)) (sym here) (first, all.0)))
part_at (z ∷ ss) us (k ∷ js) (suc i) s j ((u, more, is, first, rest), h) low here there =
    let all = subst (λ y. AreParts (layouts_of (z ∷ ss)) y (items_view (k ∷ js))) is h in
    part_at ss more js i s j (rest, all.1) (omega (arith, low)) here there

-- The numbers of items and parts are equal.
parts_count : (ss : List Schema) (us : Trees) (ds : Items) → AreParts (layouts_of ss) us ds → items_len ds ≡ length ss
parts_count [] NoTrees no_items h = refl
parts_count (s ∷ ss) (Then u us) (item d ds) h = ap suc (parts_count ss us ds h.1)
parts_count ss us ds h = absurd h

-- ---- tuples

-- What is read as a tuple with parts.
pub record TupleForm (ss : List Schema) (u : Tree) (d : Data) : Type 0 where
  pub parts : Trees
  pub items : Items
  pub is : u ≡ nodes.Group parts
  pub form : d ≡ values.array items
  pub long : items_len items ≡ length ss
  pub read : ArePartsReading (types_of ss) (layouts_of ss) parts items

-- The JSON of a tuple that isn't the unit is an array of its parts.
pub tuple_form : (ss : List Schema) (u : Tree) (d : Data) → (length ss ≡ 0 → ⊥) → IsReading (group (types_of ss)) (layouts.tuple (layouts_of ss)) u d → TupleForm ss u d
tuple_form [] u d full r = absurd (full refl)
tuple_form (s ∷ ss) u d full ((us, is, each), h) =
    let k = subst (λ z. IsTupleJson (layouts_of (s ∷ ss)) (AreParts (layouts_of (s ∷ ss))) z d) is h in
    record { parts = us; items = k.0; is = is; form = k.1; long = parts_count (s ∷ ss) us k.0 k.2; read = (each, k.2) }

-- The tuple that was read is the only one that the array denotes.
pub tuple_only : (ss : List Schema) (ts : Trees) (ds : Items) → (length ss ≡ 0 → ⊥)
    → IsOnly (HaveDistinctNames (layouts_of ss)) (ArePartsReading (types_of ss) (layouts_of ss)) ts ds
    → IsOnly (HaveDistinctNames (layouts_of ss)) (IsReading (group (types_of ss)) (layouts.tuple (layouts_of ss))) (nodes.Group ts) (values.array ds)
tuple_only [] ts ds full h = absurd (full refl)
tuple_only (s ∷ ss) ts ds full (h, one) = (
  ((ts, refl, h.0), (ds, refl, h.1)),
  λ names u r.
      let k = tuple_form (s ∷ ss) u (values.array ds) full r in
      k.is ∙ ap nodes.Group (one names k.parts (subst (ArePartsReading (types_of (s ∷ ss)) (layouts_of (s ∷ ss)) k.parts) (same_items ds k.items k.form) k.read)),
)

-- ---- entries of maps

-- Two items are a pair.
pub two_items : (js : List json.Value) (j k : json.Value) → length js ≡ 2 → j ≡ get_or js 0 j → k ≡ get_or js 1 k → values.array (items_view js) ≡ pair (view j) (view k)
two_items (a ∷ b ∷ []) j k long first second = ap₂ (λ x y. pair (view x) (view y)) (sym first) (sym second)
two_items js j k long first second = absurd (omega (arith, long))

-- Equal pairs have equal halves.
same_pair : (a b e f : Data) → pair a b ≡ pair e f → (a ≡ e) × (b ≡ f)
same_pair a b e f is = (cc is, cc is)

module _ (k : MessageType) (x : Layout) (v : MessageType) (y : Layout) where
  -- What is read as an entry of types k and v with the layouts x and y: the trees of the key and the value, and the JSON of each.
  pub entry_form : (w : Tree) (d : Data) → IsEntryReading k x v y w d
      → (t : Tree) × (u : Tree) × (e : Data) × (f : Data) × (w ≡ entry_tree t u) × (d ≡ pair e f) × IsReading k x t e × IsReading v y u f
  entry_form w d ((ts, is, (a, more, is1, ra, (b, rest, is2, rb, none))), h) =
      let same : w ≡ entry_tree a b = is ∙ ap nodes.Group (is1 ∙ ap (Then a) (is2 ∙ ap (Then b) none)) in
      let g = subst (λ z. IsEntryJson (IsJsonOf x) (IsJsonOf y) z d) same h in
      (a, b, g.0, g.1, same, g.2, (ra, g.3), (rb, g.4))

  -- The same of a known pair.
  pub entry_at : (w : Tree) (d e f : Data) → d ≡ pair e f → IsEntryReading k x v y w d → (t : Tree) × (u : Tree) × (w ≡ entry_tree t u) × IsReading k x t e × IsReading v y u f
  entry_at w d e f is r =
      let (t, u, a, b, whole, form, first, second) = entry_form w d r in
      let same = same_pair a b e f (sym form ∙ is) in
      (t, u, whole, subst (IsReading k x t) same.0 first, subst (IsReading v y u) same.1 second)

  pub entry_only : (t u : Tree) (d e f : Data) → d ≡ pair e f → IsOnly (HasDistinctNames x) (IsReading k x) t e → IsOnly (HasDistinctNames y) (IsReading v y) u f
      → IsOnly (HasDistinctNames x × HasDistinctNames y) (IsEntryReading k x v y) (entry_tree t u) d
  entry_only t u d e f is (h, one) (g, other) = (
    ((Then t (Then u NoTrees), refl, (t, Then u NoTrees, refl, h.0, (u, NoTrees, refl, g.0, refl))), (e, f, is, h.1, g.1)),
    λ names w r. let m = entry_at w d e f is r in m.2 ∙ ap₂ entry_tree (one names.0 m.0 m.3) (other names.1 m.1 m.4),
  )

-- ---- the fields of a struct

-- The JSON has a member for each field, and it is read as the tree of the value alone.
abbrev pub AreFieldsOnly : List (Named Schema) → List Value → Data → Type 0
AreFieldsOnly [] [] d = Unit {0}
AreFieldsOnly (n ∷ ns) (v ∷ vs) d = IsOnly (HasDistinctNames (layout_of n.content)) (IsMemberReading (string_bytes n.name) (type_of n.content) (layout_of n.content)) (tree v) d × AreFieldsOnly ns vs d
AreFieldsOnly ns vs d = ⊥

-- One field more that is the only one that its member denotes.
pub fields_more : (ns : List (Named Schema)) (vs : List Value) (n : Named Schema) (v : Value) (d : Data) → AreFieldsOnly ns vs d
    → IsOnly (HasDistinctNames (layout_of n.content)) (IsMemberReading (string_bytes n.name) (type_of n.content) (layout_of n.content)) (tree v) d → AreFieldsOnly (ns ++ n ∷ []) (vs ++ v ∷ []) d
fields_more [] [] n v d h one = (one, tt)
fields_more (m ∷ ns) (u ∷ us) n v d h one = (h.0, fields_more ns us n v d h.1 one)
fields_more ns vs n v d h one = absurd h

-- The fields that were read are those of the JSON.
fields_read : (ns : List (Named Schema)) (vs : List Value) (d : Data) → AreFieldsOnly ns vs d → AreFieldsReading (types_of (contents ns)) (fields_of ns) (trees (map tree vs)) d
fields_read [] [] d h = (refl, tt)
fields_read (n ∷ ns) (v ∷ vs) d h = let k = fields_read ns vs d h.1 in ((tree v, trees (map tree vs), refl, h.0.0.2.0, k.0), ((h.0.0.0, h.0.0.1, h.0.0.2.1), k.1))
fields_read ns vs d h = absurd h

-- The JSON has no other fields than those that were read.
fields_one : (ns : List (Named Schema)) (vs : List Value) (us : Trees) (d : Data) → AreFieldsOnly ns vs d → AreNamed (fields_of ns)
    → reads_all (types_of (contents ns)) us → AreFields (fields_of ns) us d → us ≡ trees (map tree vs)
fields_one [] [] us d h names r spelled = r
fields_one (n ∷ ns) (v ∷ vs) us d h names (u, more, is, first, rest) spelled =
    let all = subst (λ z. AreFields (fields_of (n ∷ ns)) z d) is spelled in
    is ∙ ap₂ Then (h.0.1 names.1 u (all.0.0, all.0.1, (first, all.0.2))) (fields_one ns vs more d h.1 names.2 rest all.1)
fields_one ns vs us d h names r spelled = absurd h

-- The fields that were read are the only ones that the members denote.
pub fields_only : (ns : List (Named Schema)) (vs : List Value) (d : Data) → AreFieldsOnly ns vs d
    → IsOnly (AreNamed (fields_of ns)) (AreFieldsReading (types_of (contents ns)) (fields_of ns)) (trees (map tree vs)) d
fields_only ns vs d h = (fields_read ns vs d h, λ names us r. fields_one ns vs us d h names r.0 r.1)

-- The member of the field at an index is read, and the type of the field has distinct names.
pub field_at : (ns : List (Named Schema)) (us : Trees) (d : Data) (i : ℕ) (n : Named Schema) → AreFieldsReading (types_of (contents ns)) (fields_of ns) us d
    → i < length ns → n ≡ get_or ns i n → (u : Tree) × IsMemberReading (string_bytes n.name) (type_of n.content) (layout_of n.content) u d
field_at [] us d i n h low here = absurd (omega (arith, low))
field_at (m ∷ ns) us d zero n ((u, more, is, first, rest), h) low here =
    let all = subst (λ y. AreFields (fields_of (m ∷ ns)) y d) is h in
    (u, subst (λ y. IsMemberReading (string_bytes y.name) (type_of y.content) (layout_of y.content) u d) (sym here) (all.0.0, all.0.1, (first, all.0.2)))
field_at (m ∷ ns) us d (suc i) n ((u, more, is, first, rest), h) low here =
    let all = subst (λ y. AreFields (fields_of (m ∷ ns)) y d) is h in
    field_at ns more d i n (rest, all.1) (omega (arith, low)) here

fields_length : (ns : List (Named Schema)) → fields_len (fields_of ns) ≡ length ns
fields_length [] = refl
fields_length (n ∷ ns) = ap suc (fields_length ns)

-- What is read as a struct.
pub struct_form : (ns : List (Named Schema)) (u : Tree) (d : Data) → IsReading (group (types_of (contents ns))) (layouts.structure (fields_of ns)) u d
    → (us : Trees) × (u ≡ nodes.Group us) × HasMembers (length ns) d × AreFieldsReading (types_of (contents ns)) (fields_of ns) us d
struct_form ns u d ((us, is, each), h) =
    let k = subst (λ z. IsStructJson (fields_len (fields_of ns)) (AreFields (fields_of ns)) z d) is h in
    (us, is, subst (λ n. HasMembers n d) (fields_length ns) k.0, (each, k.1))

-- The struct that was read is the only one that the object denotes.
pub struct_only : (ns : List (Named Schema)) (ts : Trees) (d : Data) → HasMembers (length ns) d
    → IsOnly (AreNamed (fields_of ns)) (AreFieldsReading (types_of (contents ns)) (fields_of ns)) ts d
    → IsOnly (AreNamed (fields_of ns)) (IsReading (group (types_of (contents ns))) (layouts.structure (fields_of ns))) (nodes.Group ts) d
struct_only ns ts d long (h, one) = (
  ((ts, refl, h.0), (subst (λ n. HasMembers n d) (sym (fields_length ns)) long, h.1)),
  λ names u r. let k = struct_form ns u d r in k.1 ∙ ap nodes.Group (one names k.0 k.3),
)

-- ---- members

-- A member that is read by R, where the JSON has this member.
pub member_from : (n : List ℕ) (R : Reading) (d e : Data) (t : Tree) → get n d ≡ Some e → (f : Data) × (get n d ≡ Some f) × R t f → R t e
member_from n R d e t found (f, has, h) = subst (R t) (some_is f e (sym has ∙ found)) h
