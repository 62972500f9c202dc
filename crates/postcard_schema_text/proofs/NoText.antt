-- A type with an expression has no flaw but its depth. So a type with another flaw has no expression at all.
use Rattle.std.proofs.Common.{◌≡◌, ℕ, zero, suc, ◌<◌, true, true≢false, List, [], ◌∷◌, length, refl, sym, ap, subst, ◌∙◌, Box, Vec, arith, inl, inr}
use Rattle.std.proofs.lemmas.List.Elements.{All-cons, All-head, All-nil, All-tail}
use Rattle.std.specs.declared.alloc.Global.{Global}
use Rattle.std.specs.Prelude.{codes, string_bytes}
use Rattle.postcard_schema.specs.declared.leaf.Leaf.{Leaf}
use Rattle.postcard_schema.specs.declared.leaf.Leaf.TheVariants as leaves
use Rattle.postcard_schema.specs.declared.schema.Named.{Named}
use Rattle.postcard_schema.specs.declared.schema.Schema.{Schema}
use Rattle.postcard_schema.specs.declared.schema.Schema.TheVariants as schemas
use Rattle.postcard_schema.specs.Meaning.{entry_of, has_bytes, type_of}
use Rattle.postcard_schema.specs.Views.{View, NamedViews, no_names, then_name, leaf_view, option_view, seq_view, map_view, array_view, tuple_view, struct_view, enum_view, message_type, named_views, view, views}
use Rattle.postcard_schema.proofs.Typed.{typed}
use Rattle.postcard_schema.proofs.ViewLemmas.{view_leaf, view_option, view_seq, view_map, view_array, view_tuple, view_struct, view_enum}
use Rattle.postcard_schema_text.specs.declared.angled.Angled.TheVariants as kinds
use Rattle.postcard_schema_text.specs.declared.angled.Holder.{Holder}
use Rattle.postcard_schema_text.specs.declared.angled.Holder.TheVariants as holders
use Rattle.postcard_schema_text.specs.declared.angled.Pair.{Pair}
use Rattle.postcard_schema_text.specs.declared.angled.Pair.TheVariants as pairs
use Rattle.postcard_schema_text.specs.declared.error.TextError.{TextError}
use Rattle.postcard_schema_text.specs.declared.error.TextError.TheVariants.{TooDeep}
use Rattle.postcard_schema_text.specs.declared.expressible.Kind.{Kind}
use Rattle.postcard_schema_text.specs.declared.expressible.Kind.TheVariants.{Field, Variant}
use Rattle.postcard_schema_text.specs.declared.names.TypeName.{TypeName}
use Rattle.postcard_schema_text.specs.declared.names.TypeName.TheVariants as names
use Rattle.postcard_schema_text.specs.Angled.{IsHolderOf, IsNameOf, IsPairOf, IsTypeName, MayHold, MayPair}
use Rattle.postcard_schema_text.specs.Expressible.{AreNames, HasFlaw, HasNameFlaw, IsFreeIn, IsNameFor, IsTakenBy, SomeContentHasFlaw, SomeHasFlaw}
use Rattle.postcard_schema_text.specs.Grammar.{IsBehind, IsContent, IsEnumText, IsExpression, IsField, IsFieldsRest, IsNamedRest, IsOptions, IsPlain, IsReferred, IsTupleRest, IsType, IsVariantText, Separated}
use Rattle.postcard_schema_text.specs.Names.{HasOther, IsNewTo, NamesDiffer}
use Rattle.postcard_schema_text.proofs.Pieces.{passes}

-- The view has no flaw e, however deep.
abbrev Flawless : TextError → View → Type 0
Flawless e v = (n : ℕ) → HasFlaw e n v → ⊥

-- The flaw e isn't the depth, and no type of T has it.
record Level (e : TextError) (T : Schema → List ℕ → Type 0) : Type 0 where
  deep : e ≡ TooDeep → ⊥
  none : (s : Schema) (text : List ℕ) → T s text → Flawless e (view s)

seen : (e : TextError) (s : Schema) (v : View) → view s ≡ v → Flawless e v → Flawless e (view s)
seen e s v is h = subst (Flawless e) (sym is) h

-- ---- Types of one type or two

no_option : (e : TextError) (v : View) → (e ≡ TooDeep → ⊥) → Flawless e v → Flawless e (option_view v)
no_option e v deep none zero h = deep h
no_option e v deep none (suc n) h = none n h

no_seq : (e : TextError) (v : View) → (e ≡ TooDeep → ⊥) → has_bytes (message_type v) ≡ true → Flawless e v → Flawless e (seq_view v)
no_seq e v deep some none zero h = deep h
no_seq e v deep some none (suc n) (inl lacks) = true≢false (sym some ∙ lacks.1)
no_seq e v deep some none (suc n) (inr h) = none n h

no_array : (e : TextError) (count : ℕ) (v : View) → (e ≡ TooDeep → ⊥) → has_bytes (message_type v) ≡ true → Flawless e v → Flawless e (array_view count v)
no_array e count v deep some none zero h = deep h
no_array e count v deep some none (suc n) (inl lacks) = true≢false (sym some ∙ lacks.1)
no_array e count v deep some none (suc n) (inr h) = none n h

no_map : (e : TextError) (k v : View) → (e ≡ TooDeep → ⊥) → has_bytes (entry_of (message_type k) (message_type v)) ≡ true → Flawless e k → Flawless e v
    → Flawless e (map_view k v)
no_map e k v deep some key value zero h = deep h
no_map e k v deep some key value (suc n) (inl lacks) = true≢false (sym some ∙ lacks.1)
no_map e k v deep some key value (suc n) (inr (inl h)) = key n h
no_map e k v deep some key value (suc n) (inr (inr h)) = value n h

no_leaf : (e : TextError) (l : Leaf) (word : List ℕ) → (e ≡ TooDeep → ⊥) → IsNameOf word l → Flawless e (leaf_view l)
no_leaf e l word deep is zero h = deep h
no_leaf e leaves.Bool word deep is (suc n) h = h
no_leaf e (leaves.Integer i) word deep is (suc n) h = h
no_leaf e (leaves.Float f) word deep is (suc n) h = h
no_leaf e leaves.Char word deep is (suc n) h = h
no_leaf e leaves.Str word deep is (suc n) h = h
no_leaf e leaves.Bytes word deep is (suc n) h = h
no_leaf e (leaves.Fixed o i) word deep is (suc n) h = is

-- What the schema's type says of bytes, the view's says.
element_bytes : (s : Schema) → has_bytes (type_of s) ≡ true → has_bytes (message_type (view s)) ≡ true
element_bytes s h = ap has_bytes (typed s) ∙ h

entry_bytes : (k v : Schema) → has_bytes (entry_of (type_of k) (type_of v)) ≡ true → has_bytes (entry_of (message_type (view k)) (message_type (view v))) ≡ true
entry_bytes k v h = ap (λ t. has_bytes (entry_of t (message_type (view v)))) (typed k) ∙ ap (λ t. has_bytes (entry_of (type_of k) t)) (typed v) ∙ h

seq_of : (e : TextError) (s : Schema) (b : Box Schema Global) → (e ≡ TooDeep → ⊥) → s ≡ schemas.Seq b → has_bytes (type_of b.value) ≡ true
    → Flawless e (view b.value) → Flawless e (view s)
seq_of e s b deep is some none =
    seen e s (seq_view (view b.value)) (ap view is ∙ view_seq b) (no_seq e (view b.value) deep (element_bytes b.value some) none)

map_of : (e : TextError) (s : Schema) (k v : Box Schema Global) → (e ≡ TooDeep → ⊥) → s ≡ schemas.Map k v
    → has_bytes (entry_of (type_of k.value) (type_of v.value)) ≡ true → Flawless e (view k.value) → Flawless e (view v.value) → Flawless e (view s)
map_of e s k v deep is some key value =
    seen e s (map_view (view k.value) (view v.value)) (ap view is ∙ view_map k v)
    (no_map e (view k.value) (view v.value) deep (entry_bytes k.value v.value some) key value)

-- ---- Rows

-- A fact of each item.
abbrev Each : {A : Type 0} → (A → Type 0) → List A → Type 0
Each Q [] = Unit {0}
Each Q (x ∷ xs) = Q x × Each Q xs

each_of : {A : Type 0} (P : A → List ℕ → Type 0) (Q : A → Type 0) (between : ℕ) → ((x : A) (text : List ℕ) → P x text → Q x) → (xs : List A)
    (text : List ℕ) → Separated P between xs text → Each Q xs
each_of P Q between each [] text h = absurd h
each_of P Q between each (x ∷ []) text h = (each x text h, tt)
each_of P Q between each (x ∷ y ∷ ys) text (front, back, first, (sign, rest, is, more, f), e) =
    (each x front first, each_of P Q between each (y ∷ ys) rest more)

no_parts : (e : TextError) (ss : List Schema) → Each (λ s. Flawless e (view s)) ss → (n : ℕ) → SomeHasFlaw e n (views ss) → ⊥
no_parts e [] each n h = h
no_parts e (s ∷ ss) each n (inl h) = each.0 n h
no_parts e (s ∷ ss) each n (inr h) = no_parts e ss each.1 n h

tuple_of : (e : TextError) (s : Schema) (v : Vec Schema Global) → (e ≡ TooDeep → ⊥) → s ≡ schemas.Tuple v → Each (λ x. Flawless e (view x)) v.items
    → Flawless e (view s)
tuple_of e s v deep is each = seen e s (tuple_view (views v.items)) (ap view is ∙ view_tuple v) none
  where
    none : Flawless e (tuple_view (views v.items))
    none zero h = deep h
    none (suc n) h = no_parts e v.items each n h

-- ---- Names

-- A field or a variant with a name of an expression, and no flaw e in its content.
abbrev IsFine : TextError → Kind → Named Schema → Type 0
IsFine e kind n = IsNameFor kind (string_bytes n.name) × Flawless e (view n.content)

free_of : (ns : List (Named Schema)) (name : List ℕ) → IsNewTo ns name → IsFreeIn (named_views ns) name
free_of [] name h = tt
free_of (n ∷ ns) name h = (All-head (HasOther name) n ns h, free_of ns name (All-tail (HasOther name) n ns h))

names_of : (e : TextError) (kind : Kind) (ns : List (Named Schema)) → Each (IsFine e kind) ns → NamesDiffer ns → AreNames kind (named_views ns)
names_of e kind [] each differ = tt
names_of e kind (n ∷ ns) each differ = (each.0.0, free_of ns (string_bytes n.name) differ.0, names_of e kind ns each.1 differ.1)

free_taken : (ns : NamedViews) (name : List ℕ) → IsFreeIn ns name → IsTakenBy ns name → ⊥
free_taken no_names name free taken = taken
free_taken (then_name other v ns) name free (inl is) = free.0 is
free_taken (then_name other v ns) name free (inr taken) = free_taken ns name free.1 taken

-- No name is a flaw.
pub no_name : (e : TextError) (kind : Kind) (ns : NamedViews) → AreNames kind ns → HasNameFlaw e kind ns → ⊥
no_name e kind no_names all h = h
no_name e kind (then_name name v ns) all (inl h) = h.1 all.0
no_name e kind (then_name name v ns) all (inr (inl h)) = free_taken ns name all.1 h.1
no_name e kind (then_name name v ns) all (inr (inr h)) = no_name e kind ns all.2 h

no_contents : (e : TextError) (kind : Kind) (ns : List (Named Schema)) → Each (IsFine e kind) ns → (n : ℕ) → SomeContentHasFlaw e n (named_views ns) → ⊥
no_contents e kind [] each n h = h
no_contents e kind (x ∷ xs) each n (inl h) = each.0.1 n h
no_contents e kind (x ∷ xs) each n (inr h) = no_contents e kind xs each.1 n h

no_struct : (e : TextError) (ns : List (Named Schema)) → (e ≡ TooDeep → ⊥) → 0 < length ns → Each (IsFine e Field) ns → NamesDiffer ns
    → Flawless e (struct_view (named_views ns))
no_struct e ns deep some each differ zero h = deep h
no_struct e [] deep some each differ (suc n) h = omega (arith, some)
no_struct e (x ∷ xs) deep some each differ (suc n) (inl h) = no_name e Field (named_views (x ∷ xs)) (names_of e Field (x ∷ xs) each differ) h
no_struct e (x ∷ xs) deep some each differ (suc n) (inr h) = no_contents e Field (x ∷ xs) each n h

no_enum : (e : TextError) (ns : List (Named Schema)) → (e ≡ TooDeep → ⊥) → 0 < length ns → Each (IsFine e Variant) ns → NamesDiffer ns
    → Flawless e (enum_view (named_views ns))
no_enum e ns deep some each differ zero h = deep h
no_enum e ns deep some each differ (suc zero) h = deep h
no_enum e [] deep some each differ (suc (suc n)) h = omega (arith, some)
no_enum e (x ∷ xs) deep some each differ (suc (suc n)) (inl h) = no_name e Variant (named_views (x ∷ xs)) (names_of e Variant (x ∷ xs) each differ) h
no_enum e (x ∷ xs) deep some each differ (suc (suc n)) (inr h) = no_contents e Variant (x ∷ xs) each n h

filled : {A : Type 0} (P : A → List ℕ → Type 0) (between : ℕ) (xs : List A) (text : List ℕ) → Separated P between xs text → 0 < length xs
filled P between [] text h = absurd h
filled P between (x ∷ xs) text h = omega arith

-- ---- The phrases of the grammar

no_fields : (e : TextError) (T : Schema → List ℕ → Type 0) → Level e T → (s : Schema) (text : List ℕ) → IsFieldsRest T s text → Flawless e (view s)
no_fields e T level s text (v, is, differ, (row, end, items, close, f)) =
    seen e s (struct_view (named_views v.items)) (ap view is ∙ view_struct v)
    (no_struct e v.items level.deep (filled (IsField T) 44 v.items row items) (each_of (IsField T) (IsFine e Field) 44 fine v.items row items) differ)
  where
    fine : (n : Named Schema) (field : List ℕ) → IsField T n field → IsFine e Field n
    fine n field (name, (word, back, is_word, (sign, type, colon, content, g), f)) = ((is_word.0, name), level.none n.content type content)

no_tuple : (e : TextError) (T : Schema → List ℕ → Type 0) → Level e T → (s : Schema) (text : List ℕ) → IsTupleRest T s text → Flawless e (view s)
no_tuple e T level s text (inl (v, is, none, close)) = tuple_of e s v level.deep is (subst (Each (λ x. Flawless e (view x))) (sym none) tt)
no_tuple e T level s text (inr (inl (front, back, inner, close, f))) = level.none s front inner
no_tuple e T level s text (inr (inr (v, is, (row, end, parts, close, f)))) =
    tuple_of e s v level.deep is (each_of T (λ x. Flawless e (view x)) 44 level.none v.items row parts)

no_content : (e : TextError) (T : Schema → List ℕ → Type 0) → Level e T → (s : Schema) (text : List ℕ) → IsContent T s text → Flawless e (view s)
no_content e T level s text (inl (start, rest, sign, tuple, f)) = no_tuple e T level s rest tuple
no_content e T level s text (inr (inl (start, rest, sign, fields, f))) = no_fields e T level s rest fields
no_content e T level s text (inr (inr (v, is, none, f))) = tuple_of e s v level.deep is (subst (Each (λ x. Flawless e (view x))) (sym none) tt)

no_variants : (e : TextError) (T : Schema → List ℕ → Type 0) → Level e T → (s : Schema) (text : List ℕ) → IsEnumText T s text → Flawless e (view s)
no_variants e T level s text (v, is, differ, (lead, row, is_lead, items, f)) =
    seen e s (enum_view (named_views v.items)) (ap view is ∙ view_enum v)
    (no_enum e v.items level.deep (filled (IsVariantText T) 124 v.items row items)
    (each_of (IsVariantText T) (IsFine e Variant) 124 fine v.items row items) differ)
  where
    fine : (n : Named Schema) (variant : List ℕ) → IsVariantText T n variant → IsFine e Variant n
    fine n variant (name, (word, back, is_word, content, f)) = ((is_word.0, name), no_content e T level n.content back content)

no_holder : (e : TextError) (h : Holder) (x s : Schema) → (e ≡ TooDeep → ⊥) → MayHold h (type_of x) → IsHolderOf h x s → Flawless e (view x)
    → Flawless e (view s)
no_holder e holders.Itself x s deep may is none = subst (λ y. Flawless e (view y)) (sym is) none
no_holder e holders.List x s deep may (b, is, held) none =
    seq_of e s b deep is (subst (λ y. has_bytes (type_of y) ≡ true) (sym held) may) (subst (λ y. Flawless e (view y)) (sym held) none)
no_holder e holders.Option x s deep may (b, is, held) none =
    seen e s (option_view (view b.value)) (ap view is ∙ view_option b) (no_option e (view b.value) deep (subst (λ y. Flawless e (view y)) (sym held) none))
no_holder e (holders.Fixed o) x s deep may (i, wide, is) none = seen e s (leaf_view (leaves.Fixed o i)) (ap view is ∙ view_leaf (leaves.Fixed o i)) fixed
  where
    fixed : Flawless e (leaf_view (leaves.Fixed o i))
    fixed zero h = deep h
    fixed (suc n) (inl h) = deep h.0
    fixed (suc n) (inr h) = omega (arith, h.1, wide.1)

result_differ : (n m : Named Schema) → string_bytes n.name ≡ codes "Ok" → string_bytes m.name ≡ codes "Err" → NamesDiffer (n ∷ m ∷ [])
result_differ n m ok err =
    let other : HasOther (string_bytes n.name) m = λ same. omega (arith, ap length (sym err ∙ same ∙ ok)) in
    (All-cons (HasOther (string_bytes n.name)) m [] other (All-nil (HasOther (string_bytes n.name))), (All-nil (HasOther (string_bytes m.name)), tt))

no_pair : (e : TextError) (p : Pair) (x y s : Schema) → (e ≡ TooDeep → ⊥) → MayPair p (type_of x) (type_of y) → IsPairOf p x y s
    → Flawless e (view x) → Flawless e (view y) → Flawless e (view s)
no_pair e pairs.Map x y s deep may (b, c, is, key, value) first second =
    let some = subst (λ z. has_bytes (entry_of (type_of x) (type_of z)) ≡ true) (sym value) may in
    map_of e s b c deep is (subst (λ z. has_bytes (entry_of (type_of z) (type_of c.value)) ≡ true) (sym key) some)
    (subst (λ z. Flawless e (view z)) (sym key) first) (subst (λ z. Flawless e (view z)) (sym value) second)
no_pair e pairs.Result x y s deep may (v, n, m, is, items, ok, err) first second =
    seen e s (enum_view (named_views v.items)) (ap view is ∙ view_enum v) (subst (λ ns. Flawless e (enum_view (named_views ns))) (sym items)
    (no_enum e (n ∷ m ∷ []) deep (omega arith) (
      (subst (IsNameFor Variant) (sym ok.0) (passes (codes "Ok") refl, (omega arith, refl)), subst (λ z. Flawless e (view z)) (sym ok.1) first),
      ((subst (IsNameFor Variant) (sym err.0) (passes (codes "Err") refl, (omega arith, refl)), subst (λ z. Flawless e (view z)) (sym err.1) second), tt),
    ) (result_differ n m ok.0 err.0)))

no_named : (e : TextError) (T : Schema → List ℕ → Type 0) → Level e T → (name : TypeName) (word : List ℕ) (s : Schema) (text : List ℕ)
    → IsTypeName word name → IsNamedRest T name s text → Flawless e (view s)
no_named e T level (names.Leaf l) word s text is (same, none) = seen e s (leaf_view l) (ap view same ∙ view_leaf l) (no_leaf e l word level.deep is)
no_named e T level (names.Angled (kinds.Holder h)) word s text is (start, rest, sign, (x, may, holder, (front, back, inner, close, g)), f) =
    no_holder e h x s level.deep may holder (level.none x front inner)
no_named e T level (names.Angled (kinds.Pair p)) word s text is
    (start, rest, sign, (x, y, may, pair, (a, b, (c, d, first, comma, g), (i, j, second, close, h), k)), f) =
    no_pair e p x y s level.deep may pair (level.none x c first) (level.none y i second)

no_plain : (e : TextError) (T : Schema → List ℕ → Type 0) → Level e T → (s : Schema) (text : List ℕ) → IsPlain T s text → Flawless e (view s)
no_plain e T level s text (inl (name, word, is, (front, back, is_word, rest, f))) = no_named e T level name word s back is rest
no_plain e T level s text (inr (inl (start, rest, sign, inl (b, is, some, (front, back, inner, close, g)), f))) =
    seq_of e s b level.deep is some (level.none b.value front inner)
no_plain e T level s text (inr (inl (start, rest, sign, inr (b, n, is, some, (front, back, inner, more, g)), f))) =
    seen e s (array_view n (view b.value)) (ap view is ∙ view_array b n)
    (no_array e n (view b.value) level.deep (element_bytes b.value some) (level.none b.value front inner))
no_plain e T level s text (inr (inr (inl (start, rest, sign, tuple, f)))) = no_tuple e T level s rest tuple
no_plain e T level s text (inr (inr (inr (start, rest, sign, inl fields, f)))) = no_fields e T level s rest fields
no_plain e T level s text
    (inr (inr (inr (start, rest, sign, inr (x, y, may, pair, (a, b, (c, d, first, arrow, g), (l, m, sharp, (i, j, second, close, h), n), k)), f)))) =
    no_pair e pairs.Map x y s level.deep may pair (level.none x c first) (level.none y i second)

no_behind : (e : TextError) (T : Schema → List ℕ → Type 0) → Level e T → (n : ℕ) (s : Schema) (text : List ℕ) → IsBehind n T s text → Flawless e (view s)
no_behind e T level zero s text h = no_plain e T level s text h
no_behind e T level (suc n) s text (front, rest, sign, inl h, f) = no_behind e T level n s rest h
no_behind e T level (suc n) s text (front, rest, sign, inr (quote, after, mark, (name, named, (word, back, is_word, (ends, h), i)), g), f) =
    no_behind e T level n s back h

no_options : (e : TextError) (T : Schema → List ℕ → Type 0) → Level e T → (n : ℕ) (s : Schema) (text : List ℕ) → IsOptions n (IsReferred T) s text
    → Flawless e (view s)
no_options e T level zero s text (n, h) = no_behind e T level n s text h
no_options e T level (suc n) s text (b, is, (front, back, h, sign, f)) =
    seen e s (option_view (view b.value)) (ap view is ∙ view_option b) (no_option e (view b.value) level.deep (no_options e T level n b.value front h))

no_type : (e : TextError) → (e ≡ TooDeep → ⊥) → (d : ℕ) (s : Schema) (text : List ℕ) → IsType d s text → Flawless e (view s)
unfolding IsType
no_type e deep zero s text h = absurd h
no_type e deep (suc d) s text (inl h) = no_variants e (IsType d) (record { deep = deep; none = no_type e deep d }) s text h
no_type e deep (suc d) s text (inr (n, few, h)) = no_options e (IsType d) (record { deep = deep; none = no_type e deep d }) n s text h

-- A type with a flaw that isn't its depth has no expression.
pub no_text : (e : TextError) (n : ℕ) (s : Schema) (text : List ℕ) → HasFlaw e n (view s) → (e ≡ TooDeep → ⊥) → IsExpression s text → ⊥
no_text e n s text flaw deep (front, back, h, blank, f) = no_type e deep 64 s front h n flaw
