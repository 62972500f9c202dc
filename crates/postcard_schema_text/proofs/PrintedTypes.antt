-- The text of a type that has an expression denotes the type.
-- Signs are bytes: 40 is `(`, 41 `)`, 44 `,`, 58 `:`, 59 `;`, 60 `<`, 61 `=`, 62 `>`, 91 `[`, 93 `]`, 123 `{`, 124 `|`, 125 `}`.
use Rattle.std.proofs.Common.{◌≡◌, ℕ, zero, suc, true, List, [], ◌∷◌, ◌++◌, refl, sym, ap, subst, ◌∙◌, Box, Vec, inl, inr}
use Rattle.std.proofs.lemmas.List.{append-nil, append_assoc}
use Rattle.std.proofs.lemmas.List.Elements.{All-cons, All-nil}
use Rattle.std.specs.declared.alloc.Global.{Global}
use Rattle.std.specs.Fmt.{decimal}
use Rattle.std.specs.Prelude.{codes, string_bytes}
use Rattle.postcard_schema.specs.declared.schema.Named.{Named}
use Rattle.postcard_schema.specs.declared.schema.Schema.{Schema, ind-Schema, roll-Schema}
use Rattle.postcard_schema.specs.declared.schema.Schema.TheOpen.{Schema-F}
use Rattle.postcard_schema.specs.declared.schema.Schema.TheOpen as layers
use Rattle.postcard_schema.specs.declared.schema.Schema.TheVariants as schemas
use Rattle.postcard_schema.specs.Meaning.{entry_of, has_bytes, type_of}
use Rattle.postcard_schema.specs.Named.{named_fields_text, named_parts_text, named_text, named_variants_text}
use Rattle.postcard_schema.specs.Views.{View, leaf_view, option_view, seq_view, map_view, array_view, tuple_view, struct_view, enum_view, message_type, named_views, view, views}
use Rattle.postcard_schema.proofs.Typed.{typed}
use Rattle.postcard_schema.proofs.ViewLemmas.{view_leaf, view_option, view_seq, view_map, view_array, view_tuple, view_struct, view_enum}
use Rattle.postcard_schema_text.specs.declared.angled.Angled.TheVariants as kinds
use Rattle.postcard_schema_text.specs.declared.angled.Holder.TheVariants as holders
use Rattle.postcard_schema_text.specs.declared.expressible.Kind.{Kind}
use Rattle.postcard_schema_text.specs.declared.expressible.Kind.TheVariants.{Field, Variant}
use Rattle.postcard_schema_text.specs.declared.names.TypeName.TheVariants as names
use Rattle.postcard_schema_text.specs.Expressible.{AllHaveText, AreNames, ContentsHaveText, HasText, IsExpressible, IsFreeIn}
use Rattle.postcard_schema_text.specs.Grammar.{IsContent, IsEndedBy, IsExpression, IsField, IsFieldsRest, IsBracesRest, IsListRest, IsTupleRest, IsType, IsVariantText, Separated}
use Rattle.postcard_schema_text.specs.Names.{HasOther, IsNewTo, NamesDiffer}
use Rattle.postcard_schema_text.specs.Text.{Then, IsCount, IsSign}
use Rattle.postcard_schema_text.proofs.Pieces.{count_text, ended, leaf_text, no_blanks, opened, passes, plain, sign, worded}

-- The text of the schema denotes it, if it has an expression with brackets nested at most n deep.
abbrev Printed : ℕ → Schema → Type 0
Printed n s = HasText n (view s) → IsType n s (named_text (view s))

from_view : (n : ℕ) (s : Schema) (v : View) → view s ≡ v → (HasText n v → IsType n s (named_text v)) → Printed n s
from_view n s v e f = subst (λ u. HasText n u → IsType n s (named_text u)) (sym e) f

-- What the view's type says of bytes, the schema's says.
element_bytes : (s : Schema) → has_bytes (message_type (view s)) ≡ true → has_bytes (type_of s) ≡ true
element_bytes s e = sym (ap has_bytes (typed s)) ∙ e

entry_bytes : (k v : Schema) → has_bytes (entry_of (message_type (view k)) (message_type (view v))) ≡ true → has_bytes (entry_of (type_of k) (type_of v)) ≡ true
entry_bytes k v e = sym (ap (λ t. has_bytes (entry_of t (message_type (view v)))) (typed k) ∙ ap (λ t. has_bytes (entry_of (type_of k) t)) (typed v)) ∙ e

-- ---- Types of one type or two

option_printed : (n : ℕ) (b : Box Schema Global) → Printed n b.value → HasText n (view b.value)
    → IsType (suc n) (schemas.Option b) (named_text (option_view (view b.value)))
option_printed n b inner h =
    let t = named_text (view b.value) in
    plain n (schemas.Option b) (codes "Option<" ++ (t ++ codes ">")) (inl (
      names.Angled (kinds.Holder holders.Option),
      codes "Option",
      refl,
      worded (codes "Option") _ (60 ∷ (t ++ (62 ∷ []))) (passes (codes "Option") refl)
          (opened 60 _ (t ++ (62 ∷ [])) (b.value, tt, (b, refl, refl), ended (IsType n b.value) 62 t (inner h))),
    ))

seq_printed : (n : ℕ) (b : Box Schema Global) → Printed n b.value → HasText (suc n) (seq_view (view b.value))
    → IsType (suc n) (schemas.Seq b) (named_text (seq_view (view b.value)))
seq_printed n b inner h =
    let t = named_text (view b.value) in
    plain n (schemas.Seq b) (91 ∷ (t ++ (93 ∷ []))) (inr (inl (opened 91 (IsListRest (IsType n) (schemas.Seq b)) (t ++ (93 ∷ []))
    (inl (b, refl, element_bytes b.value h.0, ended (IsType n b.value) 93 t (inner h.1))))))

array_printed : (n count : ℕ) (b : Box Schema Global) → Printed n b.value → HasText (suc n) (array_view count (view b.value))
    → IsType (suc n) (schemas.Array b count) (named_text (array_view count (view b.value)))
array_printed n count b inner h =
    let t = named_text (view b.value) in
    let digits = decimal count in
    let rest = 59 ∷ (digits ++ (93 ∷ [])) in
    let back : Then (IsSign 59) (Then (IsCount count) (IsSign 93)) rest =
    opened 59 (Then (IsCount count) (IsSign 93)) (digits ++ (93 ∷ [])) (ended (IsCount count) 93 digits (count_text count h.0)) in
    plain n (schemas.Array b count) (91 ∷ (t ++ rest)) (inr (inl (opened 91 (IsListRest (IsType n) (schemas.Array b count)) (t ++ rest)
    (inr (b, count, refl, element_bytes b.value h.1.0, (t, rest, inner h.1.1, back, refl))))))

map_printed : (n : ℕ) (k v : Box Schema Global) → Printed n k.value → Printed n v.value → HasText (suc n) (map_view (view k.value) (view v.value))
    → IsType (suc n) (schemas.Map k v) (named_text (map_view (view k.value) (view v.value)))
map_printed n k v key value h =
    let t = named_text (view k.value) in
    let u = named_text (view v.value) in
    let last : Then (IsSign 62) (IsEndedBy (IsType n) 125 v.value) (62 ∷ (u ++ (125 ∷ []))) =
    opened 62 (IsEndedBy (IsType n) 125 v.value) (u ++ (125 ∷ [])) (ended (IsType n v.value) 125 u (value h.2)) in
    plain n (schemas.Map k v) (123 ∷ (t ++ (61 ∷ 62 ∷ (u ++ (125 ∷ []))))) (inr (inr (inr
    (opened 123 (IsBracesRest (IsType n) (schemas.Map k v)) (t ++ (61 ∷ 62 ∷ (u ++ (125 ∷ [])))) (inr (
      k.value,
      v.value,
      entry_bytes k.value v.value h.0,
      (k, v, refl, refl, refl),
      (t ++ (61 ∷ []), 62 ∷ (u ++ (125 ∷ [])), ended (IsType n k.value) 61 t (key h.1), last, sym (append_assoc t (61 ∷ []) (62 ∷ (u ++ (125 ∷ []))))),
    ))))))

-- ---- Tuples

-- The parts in a row, with a `,` between two of them.
pub record PartsRow (n : ℕ) (ss : List Schema) (text end : List ℕ) : Type 0 where
  pub row : List ℕ
  pub parts : Separated (IsType n) 44 ss row
  pub whole : text ≡ row ++ end

parts_row : (n : ℕ) (inner : (s : Schema) → Printed n s) (s : Schema) (ss : List Schema) → AllHaveText n (views (s ∷ ss))
    → PartsRow n (s ∷ ss) (named_parts_text (views (s ∷ ss))) (44 ∷ 41 ∷ [])
parts_row n inner s [] h = record { row = named_text (view s); parts = inner s h.0; whole = refl }
parts_row n inner s (u ∷ us) h =
    let t = named_text (view s) in
    let more = parts_row n inner u us h.1 in
    record {
      row = t ++ (44 ∷ more.row);
      parts = (t, 44 ∷ more.row, inner s h.0, opened 44 (Separated (IsType n) 44 (u ∷ us)) more.row more.parts, refl);
      whole = ap (λ z. t ++ (44 ∷ z)) more.whole ∙ sym (append_assoc t (44 ∷ more.row) (44 ∷ 41 ∷ []));
    }

tuple_rest : (n : ℕ) (inner : (s : Schema) → Printed n s) (v : Vec Schema Global) (ss : List Schema) → v.items ≡ ss → AllHaveText n (views ss)
    → IsTupleRest (IsType n) (schemas.Tuple v) (named_parts_text (views ss))
tuple_rest n inner v [] e h = inl (v, refl, e, sign 41)
tuple_rest n inner v (s ∷ ss) e h =
    let all = parts_row n inner s ss h in
    let parts = subst (λ us. Separated (IsType n) 44 us all.row) (sym e) all.parts in
    inr (inr (v, refl, (all.row, 44 ∷ 41 ∷ [], parts, inl (44 ∷ [], 41 ∷ [], sign 44, sign 41, refl), all.whole)))

tuple_printed : (n : ℕ) (inner : (s : Schema) → Printed n s) (v : Vec Schema Global) → AllHaveText n (views v.items)
    → IsType (suc n) (schemas.Tuple v) (named_text (tuple_view (views v.items)))
tuple_printed n inner v h =
    let t = named_parts_text (views v.items) in
    plain n (schemas.Tuple v) (40 ∷ t) (inr (inr (inl (opened 40 (IsTupleRest (IsType n) (schemas.Tuple v)) t (tuple_rest n inner v v.items refl h)))))

-- ---- Names

new_to : (ns : List (Named Schema)) (name : List ℕ) → IsFreeIn (named_views ns) name → IsNewTo ns name
new_to [] name h = All-nil (HasOther name)
new_to (n ∷ ns) name h = All-cons (HasOther name) n ns h.0 (new_to ns name h.1)

names_differ : (kind : Kind) (ns : List (Named Schema)) → AreNames kind (named_views ns) → NamesDiffer ns
names_differ kind [] h = tt
names_differ kind (n ∷ ns) h = (new_to ns (string_bytes n.name) h.1, names_differ kind ns h.2)

-- The fields or variants in a row, each a text of P, with a sign between two of them.
pub record NamedRow (P : Named Schema → List ℕ → Type 0) (between : ℕ) (ns : List (Named Schema)) (text end : List ℕ) : Type 0 where
  pub row : List ℕ
  pub items : Separated P between ns row
  pub whole : text ≡ row ++ end

-- ---- Structs

fields_row : (n : ℕ) (inner : (s : Schema) → Printed n s) (x : Named Schema) (xs : List (Named Schema)) → AreNames Field (named_views (x ∷ xs))
    → ContentsHaveText n (named_views (x ∷ xs)) → NamedRow (IsField (IsType n)) 44 (x ∷ xs) (named_fields_text (named_views (x ∷ xs))) (44 ∷ 125 ∷ [])
fields_row n inner x [] names h =
    let name = string_bytes x.name in
    let t = named_text (view x.content) in
    record {
      row = name ++ (58 ∷ t);
      items = (names.0.1, worded name _ (58 ∷ t) names.0.0 (opened 58 (IsType n x.content) t (inner x.content h.0)));
      whole = sym (append_assoc name (58 ∷ t) (44 ∷ 125 ∷ []));
    }
fields_row n inner x (y ∷ ys) names h =
    let name = string_bytes x.name in
    let t = named_text (view x.content) in
    let field = name ++ (58 ∷ t) in
    let more = fields_row n inner y ys names.2 h.1 in
    let item : IsField (IsType n) x field = (names.0.1, worded name _ (58 ∷ t) names.0.0 (opened 58 (IsType n x.content) t (inner x.content h.0))) in
    record {
      row = field ++ (44 ∷ more.row);
      items = (field, 44 ∷ more.row, item, opened 44 (Separated (IsField (IsType n)) 44 (y ∷ ys)) more.row more.items, refl);
      whole = ap (λ z. name ++ (58 ∷ (t ++ (44 ∷ z)))) more.whole ∙ sym (append_assoc name (58 ∷ t) (44 ∷ (more.row ++ (44 ∷ 125 ∷ []))))
          ∙ sym (append_assoc field (44 ∷ more.row) (44 ∷ 125 ∷ []));
    }

fields_rest : (n : ℕ) (inner : (s : Schema) → Printed n s) (v : Vec (Named Schema) Global) (ns : List (Named Schema)) → v.items ≡ ns
    → HasText (suc n) (struct_view (named_views ns)) → IsFieldsRest (IsType n) (schemas.Struct v) (named_fields_text (named_views ns))
fields_rest n inner v [] e h = absurd h.0
fields_rest n inner v (x ∷ xs) e h =
    let all = fields_row n inner x xs h.0 h.1 in
    let differ = subst NamesDiffer (sym e) (names_differ Field (x ∷ xs) h.0) in
    let items = subst (λ ys. Separated (IsField (IsType n)) 44 ys all.row) (sym e) all.items in
    (v, refl, differ, (all.row, 44 ∷ 125 ∷ [], items, (44 ∷ [], 125 ∷ [], inr (sign 44), sign 125, refl), all.whole))

struct_printed : (n : ℕ) (inner : (s : Schema) → Printed n s) (v : Vec (Named Schema) Global) → HasText (suc n) (struct_view (named_views v.items))
    → IsType (suc n) (schemas.Struct v) (named_text (struct_view (named_views v.items)))
struct_printed n inner v h =
    let t = named_fields_text (named_views v.items) in
    let rest = fields_rest n inner v v.items refl h in
    plain n (schemas.Struct v) (123 ∷ t) (inr (inr (inr (opened 123 (IsBracesRest (IsType n) (schemas.Struct v)) t (inl rest)))))

-- ---- Enums

-- A name, `(`, a type and `)`.
abbrev variant_text : Named Schema → List ℕ
variant_text x = string_bytes x.name ++ (40 ∷ (named_text (view x.content) ++ (41 ∷ [])))

variant_item : (n : ℕ) (inner : (s : Schema) → Printed n s) (x : Named Schema) (xs : List (Named Schema)) → AreNames Variant (named_views (x ∷ xs))
    → HasText n (view x.content) → IsVariantText (IsType n) x (variant_text x)
variant_item n inner x xs names h =
    let t = named_text (view x.content) in (
      names.0.1,
      worded (string_bytes x.name) (IsContent (IsType n) x.content) (40 ∷ (t ++ (41 ∷ []))) names.0.0
          (inl (opened 40 (IsTupleRest (IsType n) x.content) (t ++ (41 ∷ [])) (inr (inl (ended (IsType n x.content) 41 t (inner x.content h)))))),
    )

variant_first : (x : Named Schema) (after : List ℕ) → string_bytes x.name ++ (40 ∷ (named_text (view x.content) ++ (41 ∷ after))) ≡ variant_text x ++ after
variant_first x after =
    let name = string_bytes x.name in
    let t = named_text (view x.content) in
    sym (append_assoc name (40 ∷ (t ++ (41 ∷ []))) after ∙ ap (λ z. name ++ (40 ∷ z)) (append_assoc t (41 ∷ []) after))

variants_row : (n : ℕ) (inner : (s : Schema) → Printed n s) (x : Named Schema) (xs : List (Named Schema)) → AreNames Variant (named_views (x ∷ xs))
    → ContentsHaveText n (named_views (x ∷ xs))
    → (all : NamedRow (IsVariantText (IsType n)) 124 (x ∷ xs) (variant_text x ++ named_variants_text (named_views xs)) (41 ∷ []))
    × (named_variants_text (named_views (x ∷ xs)) ≡ 124 ∷ (all.row ++ (41 ∷ [])))
variants_row n inner x [] names h =
    (record { row = variant_text x; items = variant_item n inner x [] names h.0; whole = refl }, ap (λ z. 124 ∷ z) (variant_first x (41 ∷ [])))
variants_row n inner x (y ∷ ys) names h =
    let more = variants_row n inner y ys names.2 h.1 in
    let first = variant_text x in
    let rest = opened 124 (Separated (IsVariantText (IsType n)) 124 (y ∷ ys)) more.0.row more.0.items in
    let is : first ++ named_variants_text (named_views (y ∷ ys)) ≡ (first ++ (124 ∷ more.0.row)) ++ (41 ∷ []) =
    ap (λ z. first ++ z) more.1 ∙ sym (append_assoc first (124 ∷ more.0.row) (41 ∷ [])) in (
      record {
        row = first ++ (124 ∷ more.0.row);
        items = (first, 124 ∷ more.0.row, variant_item n inner x (y ∷ ys) names h.0, rest, refl);
        whole = is;
      },
      ap (λ z. 124 ∷ z) (variant_first x (named_variants_text (named_views (y ∷ ys))) ∙ is),
    )

enum_inner : (n : ℕ) (v : Vec (Named Schema) Global) (x : Named Schema) (xs : List (Named Schema)) (row : List ℕ) → v.items ≡ x ∷ xs
    → AreNames Variant (named_views (x ∷ xs))
    → Separated (IsVariantText (IsType n)) 124 (x ∷ xs) row → IsType (suc n) (schemas.Enum v) (124 ∷ row)
unfolding IsType
enum_inner n v x xs row e names items =
    let differ = subst NamesDiffer (sym e) (names_differ Variant (x ∷ xs) names) in
    let all = subst (λ ys. Separated (IsVariantText (IsType n)) 124 ys row) (sym e) items in
    inl (v, refl, differ, (124 ∷ [], row, inl (sign 124), all, refl))

enum_rest : (n : ℕ) (inner : (s : Schema) → Printed n s) (v : Vec (Named Schema) Global) (ns : List (Named Schema)) → v.items ≡ ns
    → HasText (suc (suc n)) (enum_view (named_views ns)) → IsType (suc (suc n)) (schemas.Enum v) (named_text (enum_view (named_views ns)))
enum_rest n inner v [] e h = absurd h.0
enum_rest n inner v (x ∷ xs) e h =
    let all = variants_row n inner x xs h.0 h.1 in
    let t = named_variants_text (named_views (x ∷ xs)) in
    plain (suc n) (schemas.Enum v) (40 ∷ t) (inr (inr (inl (opened 40 (IsTupleRest (IsType (suc n)) (schemas.Enum v)) t
    (inr (inl (124 ∷ all.0.row, 41 ∷ [], enum_inner n v x xs all.0.row e h.0 all.0.items, sign 41, all.1)))))))

-- ---- All types

printed_once : (n : ℕ) (inner : (s : Schema) → Printed n s) (enums : (v : Vec (Named Schema) Global) → Printed (suc n) (schemas.Enum v)) (s : Schema)
    → Printed (suc n) s
printed_once n inner enums = ind-Schema (Printed (suc n)) (λ x y is. by x)
  where
    by : (x : Schema-F Schema) → Printed (suc n) (roll-Schema x)
    by (layers.Leaf l) = subst (Printed (suc n)) (sym (schemas.rolls-Leaf l))
        (from_view (suc n) (schemas.Leaf l) (leaf_view l) (view_leaf l) (leaf_text n l))
    by (layers.Option b) = subst (Printed (suc n)) (sym (schemas.rolls-Option b))
        (from_view (suc n) (schemas.Option b) (option_view (view b.value)) (view_option b) (option_printed n b (inner b.value)))
    by (layers.Seq b) = subst (Printed (suc n)) (sym (schemas.rolls-Seq b))
        (from_view (suc n) (schemas.Seq b) (seq_view (view b.value)) (view_seq b) (seq_printed n b (inner b.value)))
    by (layers.Map k v) = subst (Printed (suc n)) (sym (schemas.rolls-Map k v))
        (from_view (suc n) (schemas.Map k v) (map_view (view k.value) (view v.value)) (view_map k v) (map_printed n k v (inner k.value) (inner v.value)))
    by (layers.Array b m) = subst (Printed (suc n)) (sym (schemas.rolls-Array b m))
        (from_view (suc n) (schemas.Array b m) (array_view m (view b.value)) (view_array b m) (array_printed n m b (inner b.value)))
    by (layers.Tuple v) = subst (Printed (suc n)) (sym (schemas.rolls-Tuple v))
        (from_view (suc n) (schemas.Tuple v) (tuple_view (views v.items)) (view_tuple v) (tuple_printed n inner v))
    by (layers.Struct v) = subst (Printed (suc n)) (sym (schemas.rolls-Struct v))
        (from_view (suc n) (schemas.Struct v) (struct_view (named_views v.items)) (view_struct v) (struct_printed n inner v))
    by (layers.Enum v) = subst (Printed (suc n)) (sym (schemas.rolls-Enum v)) (enums v)

-- The text of each type that has an expression denotes the type.
pub printed : (n : ℕ) (s : Schema) → Printed n s
printed zero s = λ h. absurd h
printed (suc zero) s =
    printed_once zero (printed zero) (λ v. from_view (suc zero) (schemas.Enum v) (enum_view (named_views v.items)) (view_enum v) (λ h. absurd h)) s
printed (suc (suc n)) s =
    printed_once (suc n) (printed (suc n))
    (λ v. from_view (suc (suc n)) (schemas.Enum v) (enum_view (named_views v.items)) (view_enum v) (enum_rest n (printed n) v v.items refl)) s

-- So it is an expression of the type.
pub printed_expression : (s : Schema) (text : List ℕ) → IsExpressible (view s) → text ≡ named_text (view s) → IsExpression s text
printed_expression s text h e = (text, [], subst (IsType 64 s) (sym e) (printed 64 s h), no_blanks, sym (append-nil text))
