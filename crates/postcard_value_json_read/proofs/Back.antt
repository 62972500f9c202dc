-- JSON that was written is read as the tree that it was written of.
use Rattle.std.proofs.Common.{◌≡◌, ℕ, zero, suc, ◌+◌, Bool, true, false, List, [], ◌∷◌, codes, Option, Some, None, option_map, is_some, if◌then◌else◌, Ordering, Less, Equal, Greater, nat_cmp, map, refl, sym, ap, subst, ◌∙◌, arith, inl, inr}
use Rattle.std.specs.Cmp.Lexicographic.{slice_cmp}
use Rattle.std.specs.Ordering.{match_ordering}
use Rattle.std.specs.Prelude.{option_and_then}
use Rattle.postcard_wire.specs.Tree.{Tree, Trees, NoTrees, Then}
use Rattle.postcard_wire.specs.Tree as nodes
use Rattle.postcard_wire.specs.Reading.{Each, IsArray, IsEnd, IsGroup, IsSeq, IsThen}
use Rattle.postcard_schema.specs.declared.schema.Named.{Named}
use Rattle.postcard_schema.specs.declared.schema.Schema.{Schema, map-Schema, fold-roll-Schema, ind-Schema, roll-Schema}
use Rattle.postcard_schema.specs.declared.schema.Schema.TheOpen.{Schema-F}
use Rattle.postcard_schema.specs.declared.schema.Schema.TheOpen as open_schema
use Rattle.postcard_schema.specs.declared.schema.Schema.TheShapes.{former-Schema-Struct-0-at-2}
use Rattle.postcard_schema.specs.Meaning.{MessageType, MessageTypes, contents, entry_of, type_of, type_step, row_of, option, group, choice, no_types, then_type, reads, reads_all, reads_at}
use Rattle.postcard_value_text.specs.Layout.{Layout, Layouts, Fields, field_row, layout_of, layout_step, layout_row, no_layouts, then_layout, no_fields, then_field}
use Rattle.postcard_value_text.specs.Layout as layouts
use Rattle.serde_json.specs.Data.{Data, Members, null, object, string, no_members, member, put}
use Rattle.serde_json.specs.Events.{members_len}
use Rattle.serde_json.specs.Find.{get_member}
use Rattle.serde_json.specs.View.{items_of}
use Rattle.serde_json.proofs.Views.{get_member-put, get_member-put_other}
use Rattle.postcard_value_json.specs.Written.{Writer, add_member, all_json, alone, array_json, can_be_null, each_json, entry_json, field_writers, json_at, json_of, list_json, members_json, option_json, parts_json, parts_row, row, variant_json, writers}
use Rattle.postcard_value_json_read.specs.Reading.{Reading, AreFields, AreItems, AreParts, HasMembers, IsArrayJson, IsEntryJson, IsJsonAt, IsJsonOf, IsListJson, IsOptionJson, IsVariantJson, fields_len, pair}
use Rattle.postcard_value_json_read.proofs.BackLeaves.{leaf_back, same_group, same_seq}
use Rattle.postcard_value_json_read.proofs.Groups.{some_is}

-- What the writer writes of each tree of P is read as that tree by R.
abbrev IsBack : (Tree → Type 0) → Writer → Reading → Type 0
IsBack P p R = (t : Tree) (d : Data) → P t → p t ≡ Some d → R t d

-- A type with the layout of the unit is the unit.
abbrev HasUnit : MessageType → Layout → Type 0
HasUnit m (layouts.tuple no_layouts) = m ≡ group no_types
HasUnit m x = Unit {0}

-- What is written of each tree of the type is read as that tree.
pub record IsReadBack (m : MessageType) (x : Layout) : Type 0 where
  pub back : (t : Tree) (d : Data) → reads m t → json_of x t ≡ Some d → IsJsonOf x t d
  pub unit : HasUnit m x

-- The same of each type of a row, and of each field or variant.
abbrev AreReadBack : MessageTypes → Layouts → Type 0
AreReadBack no_types no_layouts = Unit {0}
AreReadBack (then_type m ms) (then_layout x xs) = IsReadBack m x × AreReadBack ms xs
AreReadBack ms xs = ⊥

-- The JSON of each field is read back as the value that it was written of.
abbrev AreFieldsBack : MessageTypes → Fields → Type 0
AreFieldsBack no_types no_fields = Unit {0}
AreFieldsBack (then_type m ms) (then_field n x fs) = IsReadBack m x × AreFieldsBack ms fs
AreFieldsBack ms fs = ⊥

mapped : {A B : Type 0} (f : A → B) (o : Option A) (b : B) → option_map f o ≡ Some b → (a : A) × (o ≡ Some a) × (f a ≡ b)
mapped f None b e = absurd (cc e)
mapped f (Some a) b e = (a, refl, some_is (f a) b e)

chained : {A B : Type 0} (f : A → Option B) (o : Option A) (b : B) → option_and_then f o ≡ Some b → (a : A) × (o ≡ Some a) × (f a ≡ Some b)
chained f None b e = absurd (cc e)
chained f (Some a) b e = (a, refl, e)

-- ---- options, lists and maps

same_present : (s t : Tree) → nodes.Present s ≡ nodes.Present t → s ≡ t
same_present s t e = cc e

-- If the JSON of an option's value is read back, so is that of the option.
option_back : (m : MessageType) (x : Layout) → IsBack (reads m) (json_of x) (IsJsonOf x) → IsBack (reads (option m)) (json_of (layouts.option x)) (IsJsonOf (layouts.option x))
option_back m x h nodes.Absent d r e = sym (some_is null d e)
option_back m x h (nodes.Present s) d (inl is) e = absurd (cc is)
option_back m x h (nodes.Present s) d (inr (u, is, r)) e = by (can_be_null x) e
  where
    inner : (f : Data) → json_of x s ≡ Some f → IsJsonOf x s f
    inner f = h s f (subst (reads m) (sym (same_present s u is)) r)

    by : (b : Bool) → option_json b (json_of x) (nodes.Present s) ≡ Some d → IsOptionJson b (IsJsonOf x) (nodes.Present s) d
    by true e = let k = mapped (alone (codes "Some")) (json_of x s) d e in (k.0, sym k.2, inner k.0 k.1)
    by false e = inner d e
option_back m x h t d r e = absurd (cc e)

module _ (P : Tree → Type 0) (p : Writer) (R : Reading) where
  all_back : IsBack P p R → (ts : Trees) (ds : List Data) → Each P ts → all_json p ts ≡ Some ds → AreItems R ts (items_of ds)
  all_back h NoTrees ds each e = subst (λ z. AreItems R NoTrees (items_of z)) (some_is [] ds e) tt
  all_back h (Then t ts) ds each e =
      let k = chained (λ d. option_map (λ es. d ∷ es) (all_json p ts)) (p t) ds e in
      let l = mapped (λ es. k.0 ∷ es) (all_json p ts) ds k.2 in
      subst (λ z. AreItems R (Then t ts) (items_of z)) l.2 (h t k.0 each.0 k.1, all_back h ts l.0 each.1 l.1)

  list_back : IsBack P p R → IsBack (IsSeq P) (list_json p) (IsListJson R)
  list_back h (nodes.Seq ts) d (us, is, few, each) e =
      let k = mapped row (all_json p ts) d e in
      (items_of k.0, sym k.2, all_back h ts k.0 (subst (Each P) (sym (same_seq ts us is)) each) k.1)
  list_back h t d r e = absurd (cc e)

  array_back : (n : ℕ) → IsBack P p R → IsBack (IsArray n P) (array_json p) (IsArrayJson R)
  array_back n h (nodes.Group ts) d (us, is, long, each) e =
      let k = mapped row (all_json p ts) d e in
      (items_of k.0, sym k.2, all_back h ts k.0 (subst (Each P) (sym (same_group ts us is)) each) k.1)
  array_back n h t d r e = absurd (cc e)

-- If the JSON of a key and of a value is read back, so is that of the entry of both.
entry_back : (P Q : Tree → Type 0) (p q : Writer) (R S : Reading) → IsBack P p R → IsBack Q q S → IsBack (IsGroup (IsThen P (IsThen Q IsEnd))) (entry_json p q) (IsEntryJson R S)
entry_back P Q p q R S f g (nodes.Group ts) d (us, is, (a, more, first, ra, (b, rest, second, rb, none))) e =
    let whole : ts ≡ Then a (Then b NoTrees) = same_group ts us is ∙ first ∙ ap (Then a) (second ∙ ap (Then b) none) in
    let k = mapped parts_row (each_json (p ∷ q ∷ []) (Then a (Then b NoTrees))) d (subst (λ z. parts_json (p ∷ q ∷ []) z ≡ Some d) whole e) in
    let l = chained (λ x. option_map (λ ds. x ∷ ds) (each_json (q ∷ []) (Then b NoTrees))) (p a) k.0 k.1 in
    let m = mapped (λ ds. l.0 ∷ ds) (each_json (q ∷ []) (Then b NoTrees)) k.0 l.2 in
    let n = chained (λ x. option_map (λ ds. x ∷ ds) (each_json [] NoTrees)) (q b) m.0 m.1 in
    let all : k.0 ≡ l.0 ∷ n.0 ∷ [] = sym m.2 ∙ ap (λ ds. l.0 ∷ ds) (sym (some_is (n.0 ∷ []) m.0 n.2)) in
    let form : d ≡ pair l.0 n.0 = sym k.2 ∙ ap parts_row all in
    subst (λ z. IsEntryJson R S (nodes.Group z) d) (sym whole) (l.0, n.0, form, f a l.0 ra l.1, g b n.0 rb n.1)
entry_back P Q p q R S f g t d r e = absurd (cc e)

-- ---- tuples

-- If the JSON of each part is read back, so are the parts of a row.
parts_back : (ms : MessageTypes) (xs : Layouts) (ts : Trees) (ds : List Data) → AreReadBack ms xs → reads_all ms ts → each_json (writers xs) ts ≡ Some ds → AreParts xs ts (items_of ds)
parts_back no_types no_layouts ts ds h none e =
    let same : [] ≡ ds = some_is [] ds (subst (λ z. each_json [] z ≡ Some ds) none e) in
    subst (λ z. AreParts no_layouts z (items_of ds)) (sym none) (subst (λ z. AreParts no_layouts NoTrees (items_of z)) same tt)
parts_back (then_type m ms) (then_layout x xs) ts ds h (t, us, is, first, rest) e =
    let k = chained (λ d. option_map (λ es. d ∷ es) (each_json (writers xs) us)) (json_of x t) ds (subst (λ z. each_json (writers (then_layout x xs)) z ≡ Some ds) is e) in
    let l = mapped (λ es. k.0 ∷ es) (each_json (writers xs) us) ds k.2 in
    subst (λ z. AreParts (then_layout x xs) z (items_of ds)) (sym is)
    (subst (λ z. AreParts (then_layout x xs) (Then t us) (items_of z)) l.2 (h.0.back t k.0 first k.1, parts_back ms xs us l.0 h.1 rest l.1))
parts_back ms xs ts ds h r e = absurd h

full_row : (x : Layout) (xs : Layouts) (ts : Trees) (ds : List Data) → AreParts (then_layout x xs) ts (items_of ds) → parts_row ds ≡ row ds
full_row x xs NoTrees [] h = absurd h
full_row x xs (Then t ts) [] h = absurd h
full_row x xs ts (d ∷ ds) h = refl

-- If the JSON of each part is read back, so is that of the tuple.
tuple_back : (ms : MessageTypes) (xs : Layouts) → AreReadBack ms xs → IsBack (reads (group ms)) (json_of (layouts.tuple xs)) (IsJsonOf (layouts.tuple xs))
tuple_back no_types no_layouts h (nodes.Group ts) d (us, is, none) e =
    let empty : ts ≡ NoTrees = same_group ts us is ∙ none in
    (empty, sym (some_is null d (subst (λ z. parts_json [] z ≡ Some d) empty e)))
tuple_back no_types (then_layout x xs) h (nodes.Group ts) d r e = absurd h
tuple_back (then_type m ms) no_layouts h (nodes.Group ts) d r e = absurd h
tuple_back (then_type m ms) (then_layout x xs) h (nodes.Group ts) d (us, is, r) e =
    let k = mapped parts_row (each_json (writers (then_layout x xs)) ts) d e in
    let all = parts_back (then_type m ms) (then_layout x xs) ts k.0 h (subst (reads_all (then_type m ms)) (sym (same_group ts us is)) r) k.1 in
    (items_of k.0, sym k.2 ∙ full_row x xs ts k.0 all, all)
tuple_back ms xs h t d r e = absurd (cc e)

-- ---- structs

is_some_none : {A : Type 0} (o : Option A) → is_some o ≡ false → o ≡ None
is_some_none None e = refl
is_some_none (Some x) e = cc e

-- A member that is added is new.
added : (n : List ℕ) (d : Data) (ms ns : Members) → add_member n d ms ≡ Some ns → (get_member n ms ≡ None) × (put n d ms ≡ ns)
added n d ms ns e = by (is_some (get_member n ms)) refl e
  where
    by : (b : Bool) → is_some (get_member n ms) ≡ b → (if b then None else Some (put n d ms)) ≡ Some ns → (get_member n ms ≡ None) × (put n d ms ≡ ns)
    by true is e = absurd (cc e)
    by false is e = (is_some_none (get_member n ms) is, some_is (put n d ms) ns e)

-- A member that is put keeps the others.
member_kept : (n : List ℕ) (d : Data) (ms : Members) (q : List ℕ) (e : Data) → get_member n ms ≡ None → get_member q ms ≡ Some e → get_member q (put n d ms) ≡ Some e
member_kept n d ms q e new found =
    get_member-put_other q n d ms (λ same. absurd (cc (sym found ∙ ap (λ z. get_member z ms) same ∙ new))) ∙ found

-- A new member makes one member more.
put_len : (k : List ℕ) (d : Data) (ms : Members) → get_member k ms ≡ None → members_len (put k d ms) ≡ suc (members_len ms)
put_len k d no_members new = refl
put_len k d (member l e ms) new = by (λ h. put_len k d ms h) (slice_cmp nat_cmp k l) new
  where
    by : (get_member k ms ≡ None → members_len (put k d ms) ≡ suc (members_len ms)) → (o : Ordering) → match_ordering o (get_member k ms) (Some e) (get_member k ms) ≡ None
        → members_len (match_ordering o (member k d (member l e ms)) (member l d ms) (member l e (put k d ms))) ≡ suc (suc (members_len ms))
    by next Less new = refl
    by next Equal new = absurd (cc new)
    by next Greater new = ap suc (next new)

-- What the fields add to some members: each is read under its name, and the members before are kept.
record IsStructOf (fs : Fields) (ts : Trees) (before ns : Members) : Type 0 where
  read : AreFields fs ts (object ns)
  long : members_len ns ≡ members_len before + fields_len fs
  kept : (q : List ℕ) (d : Data) → get_member q before ≡ Some d → get_member q ns ≡ Some d

-- If the JSON of each field is read back, the members that the fields add are those of `IsStructOf`.
fields_back : (ms : MessageTypes) (fs : Fields) (ts : Trees) (before ns : Members) → AreFieldsBack ms fs → reads_all ms ts → members_json (field_writers fs) ts before ≡ Some ns → IsStructOf fs ts before ns
fields_back no_types no_fields ts before ns h none e =
    let same : before ≡ ns = some_is before ns (subst (λ z. members_json [] z before ≡ Some ns) none e) in
    record {
      read = subst (λ z. AreFields no_fields z (object ns)) (sym none) tt;
      long = subst (λ z. members_len z ≡ members_len before + 0) same (omega arith);
      kept = λ q d found. subst (λ z. get_member q z ≡ Some d) same found;
    }
fields_back (then_type m ms) (then_field n x fs) ts before ns h (t, us, is, first, rest) e =
    let c = chained (λ d. option_and_then (members_json (field_writers fs) us) (add_member n d before)) (json_of x t) ns (subst (λ z. members_json (field_writers (then_field n x fs)) z before ≡ Some ns) is e) in
    let l = chained (members_json (field_writers fs) us) (add_member n c.0 before) ns c.2 in
    let a = added n c.0 before l.0 l.1 in
    let g = fields_back ms fs us l.0 ns h.1 rest l.2 in
    let here = g.kept n c.0 (subst (λ z. get_member n z ≡ Some c.0) a.1 (get_member-put n c.0 before)) in
    let more : members_len l.0 ≡ suc (members_len before) = subst (λ z. members_len z ≡ suc (members_len before)) a.1 (put_len n c.0 before a.0) in
    record {
      read = subst (λ z. AreFields (then_field n x fs) z (object ns)) (sym is) ((c.0, here, h.0.back t c.0 first c.1), g.read);
      long = omega (arith, g.long, more);
      kept = λ q d found. g.kept q d (subst (λ z. get_member q z ≡ Some d) a.1 (member_kept n c.0 before q d a.0 found));
    }
fields_back ms fs ts before ns h r e = absurd h

-- If the JSON of each field is read back, so is that of the struct.
struct_back : (ms : MessageTypes) (fs : Fields) → AreFieldsBack ms fs → IsBack (reads (group ms)) (json_of (layouts.structure fs)) (IsJsonOf (layouts.structure fs))
struct_back ms fs h (nodes.Group ts) d (us, is, r) e =
    let k = mapped object (members_json (field_writers fs) ts no_members) d e in
    let g = fields_back ms fs ts no_members k.0 h (subst (reads_all ms) (sym (same_group ts us is)) r) k.1 in
    subst (λ z. HasMembers (fields_len fs) z × AreFields fs ts z) k.2 (omega (arith, g.long), g.read)
struct_back ms fs h t d r e = absurd (cc e)

-- ---- variants

-- If the JSON of a variant's content is read back, so is that of the variant: its name, or an object of its name and the content.
variant_back : (n : List ℕ) (m : MessageType) (x : Layout) → IsReadBack m x → (t : Tree) (d : Data) → reads m t → variant_json n x (json_of x) t ≡ Some d → IsVariantJson n x (IsJsonOf x) t d
variant_back n m (layouts.tuple no_layouts) h t d r e =
    let k = subst (λ z. reads z t) h.unit r in
    (k.1 ∙ ap nodes.Group k.2, sym (some_is (string n) d e))
variant_back n m x h t d r e = let k = mapped (alone n) (json_of x t) d e in (k.0, sym k.2, h.back t k.0 r k.1)

-- If the JSON of each content is read back, so is that of the variant at an index.
at_back : (ms : MessageTypes) (fs : Fields) → AreFieldsBack ms fs → (i : ℕ) (t : Tree) (d : Data) → reads_at ms i t → json_at fs i t ≡ Some d → IsJsonAt fs i t d
at_back no_types no_fields h i t d r e = absurd r
at_back (then_type m ms) (then_field n x fs) h zero t d r e = variant_back n m x h.0 t d r e
at_back (then_type m ms) (then_field n x fs) h (suc i) t d r e = at_back ms fs h.1 i t d r e
at_back ms fs h i t d r e = absurd h

same_index : (i j : ℕ) (t u : Tree) → nodes.Variant i t ≡ nodes.Variant j u → i ≡ j
same_index i j t u e = cc e

same_held : (i j : ℕ) (t u : Tree) → nodes.Variant i t ≡ nodes.Variant j u → t ≡ u
same_held i j t u e = cc e

-- If the JSON of each content is read back, so is that of the enum.
choice_back : (ms : MessageTypes) (fs : Fields) → AreFieldsBack ms fs → IsBack (reads (choice ms)) (json_of (layouts.choice fs)) (IsJsonOf (layouts.choice fs))
choice_back ms fs h (nodes.Variant i t) d (j, u, is, small, r) e =
    at_back ms fs h i t d (subst (λ k. reads_at ms k t) (sym (same_index i j t u is)) (subst (reads_at ms j) (sym (same_held i j t u is)) r)) e
choice_back ms fs h t d r e = absurd (cc e)

-- ---- schemas

-- A schema, and that what is written of its trees is read as them.
abbrev Told : Type 0
Told = (s : Schema) × IsReadBack (type_of s) (layout_of s)

abbrev schema_in : Told → Schema
schema_in e = e.0

-- The layouts of a tuple's parts are read back, if each is.
rows_told : (es : List Told) → AreReadBack (row_of (map type_of (map schema_in es))) (layout_row (map layout_of (map schema_in es)))
rows_told [] = tt
rows_told (e ∷ es) = (e.1, rows_told es)

-- The types of fields or variants, and below their layouts, from such schemas.
abbrev named_types : List (Named Told) → MessageTypes
named_types es = row_of (contents (map (former-Schema-Struct-0-at-2.map Schema MessageType type_of) (map (former-Schema-Struct-0-at-2.map Told Schema schema_in) es)))

abbrev named_layouts : List (Named Told) → Fields
named_layouts es = field_row (map (former-Schema-Struct-0-at-2.map Schema Layout layout_of) (map (former-Schema-Struct-0-at-2.map Told Schema schema_in) es))

-- The same of fields and variants.
names_told : (es : List (Named Told)) → AreFieldsBack (named_types es) (named_layouts es)
names_told [] = tt
names_told (e ∷ es) = (e.content.1, names_told es)

-- One step of the recursion over schemas: a type is read back if its parts are.
step_back : (y : Schema-F Told) → IsReadBack (type_step (map-Schema Schema MessageType type_of (map-Schema Told Schema schema_in y))) (layout_step (map-Schema Schema Layout layout_of (map-Schema Told Schema schema_in y)))
step_back (open_schema.Leaf l) = record { back = leaf_back l; unit = tt }
step_back (open_schema.Option b) = record { back = option_back (type_of b.value.0) (layout_of b.value.0) b.value.1.back; unit = tt }
step_back (open_schema.Seq b) = record { back = list_back (reads (type_of b.value.0)) (json_of (layout_of b.value.0)) (IsJsonOf (layout_of b.value.0)) b.value.1.back; unit = tt }
step_back (open_schema.Map k v) =
    let m = type_of k.value.0 in
    let n = type_of v.value.0 in
    let x = layout_of k.value.0 in
    let y = layout_of v.value.0 in
    record {
      back = list_back (reads (entry_of m n)) (entry_json (json_of x) (json_of y)) (IsEntryJson (IsJsonOf x) (IsJsonOf y))
          (entry_back (reads m) (reads n) (json_of x) (json_of y) (IsJsonOf x) (IsJsonOf y) k.value.1.back v.value.1.back);
      unit = tt;
    }
step_back (open_schema.Array b n) = record { back = array_back (reads (type_of b.value.0)) (json_of (layout_of b.value.0)) (IsJsonOf (layout_of b.value.0)) n b.value.1.back; unit = tt }
step_back (open_schema.Tuple v) = by v.items
  where
    by : (es : List Told) → IsReadBack (group (row_of (map type_of (map schema_in es)))) (layouts.tuple (layout_row (map layout_of (map schema_in es))))
    by [] = record { back = tuple_back no_types no_layouts tt; unit = refl }
    by (e ∷ es) = record { back = tuple_back (row_of (map type_of (map schema_in (e ∷ es)))) (layout_row (map layout_of (map schema_in (e ∷ es)))) (rows_told (e ∷ es)); unit = tt }
step_back (open_schema.Struct v) = record { back = struct_back (named_types v.items) (named_layouts v.items) (names_told v.items); unit = tt }
step_back (open_schema.Enum v) = record { back = choice_back (named_types v.items) (named_layouts v.items) (names_told v.items); unit = tt }

-- What is written of each tree of a schema is read as that tree.
pub schema_back : (s : Schema) → IsReadBack (type_of s) (layout_of s)
schema_back = ind-Schema (λ s. IsReadBack (type_of s) (layout_of s)) (λ x y is.
    let inner = subst (λ z. IsReadBack (type_step (map-Schema Schema MessageType type_of z)) (layout_step (map-Schema Schema Layout layout_of z))) is (step_back y) in
    subst (λ m. IsReadBack m (layout_of (roll-Schema x))) (sym (fold-roll-Schema MessageType type_step x))
    (subst (λ z. IsReadBack (type_step (map-Schema Schema MessageType type_of x)) z) (sym (fold-roll-Schema Layout layout_step x)) inner))
