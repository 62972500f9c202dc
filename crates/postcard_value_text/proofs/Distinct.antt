-- In a type that an expression denotes, names tell its values apart.
use Rattle.std.proofs.Common.{◌≡◌, ℕ, zero, suc, ◌<◌, List, [], ◌∷◌, length, codes, string_bytes, sym, subst, arith, inl, inr}
use Rattle.std.proofs.lemmas.List.Elements.{All-head, All-tail}
use Rattle.postcard_schema.specs.declared.leaf.Leaf.TheVariants as leaves
use Rattle.postcard_schema_text.specs.declared.angled.Holder.{Holder}
use Rattle.postcard_schema_text.specs.declared.angled.Holder.TheVariants as holders
use Rattle.postcard_schema_text.specs.declared.angled.Pair.{Pair}
use Rattle.postcard_schema_text.specs.declared.angled.Pair.TheVariants as pairs
use Rattle.postcard_schema_text.specs.declared.angled.Angled.TheVariants as kinds
use Rattle.postcard_schema_text.specs.declared.names.TypeName.TheVariants as names
use Rattle.postcard_schema_text.specs.Angled.{IsHolderOf, IsPairOf}
use Rattle.postcard_schema_text.specs.Names.{HasOther, IsNewTo, NamesDiffer}
use Rattle.postcard_schema_text.specs.Grammar.{Separated, IsListRest, IsTupleRest, IsField, IsFieldsRest, IsMapRest, IsWorded, IsPlain, IsBehind, IsReferred, IsOptions, IsContent, IsVariantText, IsEnumText, IsType, IsExpression}
use Rattle.postcard_value_text.specs.{Named, Schema, fields_of, layout_of, layouts_of}
use Rattle.postcard_value_text.specs.Accepted.{AreNamed, AreNotCalled, HasDistinctNames, HaveDistinctNames}
use Rattle.postcard_value_text.specs.Accepted as texts
use Rattle.postcard_value_text.proofs.Layouts.{layout_of_leaf, layout_of_option, layout_of_seq, layout_of_map, layout_of_array, layout_of_tuple, layout_of_struct, layout_of_enum}

-- Each schema that T denotes has distinct names.
abbrev Distinct : (Schema → List ℕ → Type 0) → Type 0
Distinct T = (s : Schema) (t : List ℕ) → T s t → HasDistinctNames (layout_of s)

-- Each field or variant that T denotes has a name, and its content has distinct names.
abbrev Filled : (Named Schema → List ℕ → Type 0) → Type 0
Filled T = (n : Named Schema) (t : List ℕ) → T n t → (0 < length (string_bytes n.name)) × HasDistinctNames (layout_of n.content)

-- The types in a row have distinct names, if each has.
row : (P : Schema → List ℕ → Type 0) (sign : ℕ) (ss : List Schema) (t : List ℕ) → Distinct P → Separated P sign ss t → HaveDistinctNames (layouts_of ss)
row P sign [] t each h = absurd h
row P sign (s ∷ []) t each h = (each s t h, tt)
row P sign (s ∷ u ∷ ss) t each (a, b, h, (c, d, g, rest, e), f) = (each s a h, row P sign (u ∷ ss) d each rest)

-- The same of fields and variants.
named_row : (P : Named Schema → List ℕ → Type 0) (sign : ℕ) (ns : List (Named Schema)) (t : List ℕ) → Filled P → Separated P sign ns t → AreNamed (fields_of ns)
named_row P sign [] t each h = absurd h
named_row P sign (n ∷ []) t each h = let k = each n t h in (k.0, k.1, tt)
named_row P sign (n ∷ m ∷ ns) t each (a, b, h, (c, d, g, rest, e), f) = let k = each n a h in (k.0, k.1, named_row P sign (m ∷ ns) d each rest)

-- A list or an array.
of_list : (T : Schema → List ℕ → Type 0) → Distinct T → Distinct (IsListRest T)
of_list T each s t (inl (b, is, full, (x, y, h, close, e))) = rw (is, layout_of_seq b) (each b.value x h)
of_list T each s t (inr (b, k, is, full, (x, y, h, rest, e))) = rw (is, layout_of_array b k) (each b.value x h)

-- A tuple.
of_tuple : (T : Schema → List ℕ → Type 0) → Distinct T → Distinct (IsTupleRest T)
of_tuple T each s t (inl (v, is, empty, close)) = rw (is, layout_of_tuple v, empty) tt
of_tuple T each s t (inr (inl (x, y, h, close, e))) = each s x h
of_tuple T each s t (inr (inr (v, is, (x, y, h, end, e)))) = rw (is, layout_of_tuple v) (row T 44 v.items x each h)

-- A field.
of_field : (T : Schema → List ℕ → Type 0) → Distinct T → Filled (IsField T)
of_field T each n t (named, (x, y, word, (u, v, colon, h, e), f)) = (named.0, each n.content v h)

-- A struct.
of_fields : (T : Schema → List ℕ → Type 0) → Distinct T → Distinct (IsFieldsRest T)
of_fields T each s t (v, is, differ, (x, y, h, end, e)) = rw (is, layout_of_struct v) (named_row (IsField T) 44 v.items x (of_field T each) h)

-- A type such as `Option<T>`.
of_one : (h : Holder) (x s : Schema) → IsHolderOf h x s → HasDistinctNames (layout_of x) → HasDistinctNames (layout_of s)
of_one holders.Itself x s is inside = rw is inside
of_one holders.List x s (b, is, value) inside = rw (is, layout_of_seq b, value) inside
of_one holders.Option x s (b, is, value) inside = rw (is, layout_of_option b, value) inside
of_one (holders.Fixed order) x s (integer, same, is) inside = rw (is, layout_of_leaf (leaves.Fixed order integer)) tt

-- The names of the variants of a result.
result_names : (n m : List ℕ) → n ≡ codes "Ok" → m ≡ codes "Err" → n ≡ m → ⊥
result_names n m ok err same = cc

-- A type such as `Result<T, E>`.
of_two : (p : Pair) (x y s : Schema) → IsPairOf p x y s → HasDistinctNames (layout_of x) → HasDistinctNames (layout_of y) → HasDistinctNames (layout_of s)
of_two pairs.Map x y s (b, c, is, key, value) first second = rw (is, layout_of_map b c, key, value) (first, second)
of_two pairs.Result x y s (v, n, m, is, items, (ok, value), (err, error)) first second = rw (is, layout_of_enum v, items, value, error) (
  ((λ same. result_names (string_bytes n.name) (string_bytes m.name) ok err (sym same), tt), (tt, tt)),
  (subst (λ z. 0 < length z) (sym ok) (omega arith), first, (subst (λ z. 0 < length z) (sym err) (omega arith), second, tt)),
)

-- A map.
of_map : (T : Schema → List ℕ → Type 0) → Distinct T → Distinct (IsMapRest T)
of_map T each s t (x, y, may, is, (f, g, (f2, g2, key, equals, e2), (f3, g3, arrow, (f4, g4, value, close, e4), e3), e)) = of_two pairs.Map x y s is (each x f2 key) (each y f4 value)

-- A type that begins with its name.
of_worded : (T : Schema → List ℕ → Type 0) → Distinct T → Distinct (IsWorded T)
of_worded T each s t (names.Leaf l, name, called, (f, g, word, (is, nothing), e)) = rw (is, layout_of_leaf l) tt
of_worded T each s t (names.Angled (kinds.Holder h), name, called, (f, g, word, (f2, g2, open_sign, (x, may, is, (f3, g3, inside, close, e3)), e2), e)) = of_one h x s is (each x f3 inside)
of_worded T each s t (names.Angled (kinds.Pair p), name, called, (f, g, word, (f2, g2, open_sign, (x, y, may, is, (f3, g3, (f4, g4, first, comma, e4), (f5, g5, second, close, e5), e3)), e2), e)) =
    of_two p x y s is (each x f4 first) (each y f5 second)

-- A type without `&` before it and `?` after it.
of_plain : (T : Schema → List ℕ → Type 0) → Distinct T → Distinct (IsPlain T)
of_plain T each s t (inl h) = of_worded T each s t h
of_plain T each s t (inr (inl (x, y, sign, h, e))) = of_list T each s y h
of_plain T each s t (inr (inr (inl (x, y, sign, h, e)))) = of_tuple T each s y h
of_plain T each s t (inr (inr (inr (x, y, sign, inl h, e)))) = of_fields T each s y h
of_plain T each s t (inr (inr (inr (x, y, sign, inr h, e)))) = of_map T each s y h

-- A type after `n` references.
of_behind : (n : ℕ) (T : Schema → List ℕ → Type 0) → Distinct T → Distinct (IsBehind n T)
of_behind zero T each s t h = of_plain T each s t h
of_behind (suc n) T each s t (x, y, sign, inl h, e) = of_behind n T each s y h
of_behind (suc n) T each s t (x, y, sign, inr (x2, y2, quote, (name, called, (word, back, spelled, (apart, h), e3)), e2), e) = of_behind n T each s back h

-- A type after any number of references.
of_referred : (T : Schema → List ℕ → Type 0) → Distinct T → Distinct (IsReferred T)
of_referred T each s t (n, h) = of_behind n T each s t h

-- A type with `k` signs `?` after it.
of_options : (k : ℕ) (P : Schema → List ℕ → Type 0) → Distinct P → Distinct (IsOptions k P)
of_options zero P each s t h = each s t h
of_options (suc k) P each s t (b, is, (x, y, h, sign, e)) = rw (is, layout_of_option b) (of_options k P each b.value x h)

-- The content of a variant.
of_content : (T : Schema → List ℕ → Type 0) → Distinct T → Distinct (IsContent T)
of_content T each s t (inl (x, y, sign, h, e)) = of_tuple T each s y h
of_content T each s t (inr (inl (x, y, sign, h, e))) = of_fields T each s y h
of_content T each s t (inr (inr (v, is, empty, nothing))) = rw (is, layout_of_tuple v, empty) tt

-- A variant.
of_variant : (T : Schema → List ℕ → Type 0) → Distinct T → Filled (IsVariantText T)
of_variant T each n t (named, (x, y, word, h, e)) = (named.0, of_content T each n.content y h)

-- A name that is new to a row is the name of none of it.
not_called : (name : List ℕ) (ns : List (Named Schema)) → IsNewTo ns name → AreNotCalled name (fields_of ns)
not_called name [] new = tt
not_called name (n ∷ ns) new = (All-head (HasOther name) n ns new, not_called name ns (All-tail (HasOther name) n ns new))

-- Fields with different names in the grammar of types have different names in that of values.
names_differ : (ns : List (Named Schema)) → NamesDiffer ns → texts.NamesDiffer (fields_of ns)
names_differ [] differ = tt
names_differ (n ∷ ns) (new, more) = (not_called (string_bytes n.name) ns new, names_differ ns more)

-- An enum.
of_enum : (T : Schema → List ℕ → Type 0) → Distinct T → Distinct (IsEnumText T)
of_enum T each s t (v, is, differ, (x, y, lead, h, e)) =
    rw (is, layout_of_enum v) (names_differ v.items differ, named_row (IsVariantText T) 124 v.items y (of_variant T each) h)

-- Each type that an expression denotes has distinct names.
type_distinct : (d : ℕ) → Distinct (IsType d)
unfolding IsType
type_distinct zero s t h = absurd h
type_distinct (suc d) s t (inl h) = of_enum (IsType d) (type_distinct d) s t h
type_distinct (suc d) s t (inr (k, few, h)) = of_options k (IsReferred (IsType d)) (of_referred (IsType d) (type_distinct d)) s t h

-- A type that an expression denotes has distinct names.
pub expression_distinct : (s : Schema) (text : List ℕ) → IsExpression s text → HasDistinctNames (layout_of s)
expression_distinct s text (x, y, h, blank, e) = type_distinct 64 s x h
