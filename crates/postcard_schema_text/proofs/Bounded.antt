-- The bounds of `specs/Bounds.antt` hold of each type that a text of the grammar denotes.
-- Signs are bytes: 44 is `,`, 124 `|`.
use Rattle.std.proofs.Common.{◌≡◌, ℕ, zero, suc, ◌+◌, ◌*◌, ◌≤◌, true, List, [], ◌∷◌, arith, inl, inr}
use Rattle.postcard_schema.specs.declared.leaf.Leaf.TheVariants.{Fixed}
use Rattle.postcard_schema.specs.declared.schema.Named.{Named}
use Rattle.postcard_schema.specs.declared.schema.Schema.{Schema}
use Rattle.postcard_schema.specs.Bounds.{ElementsHaveBytes, AllElementsHaveBytes, depth, greatest_depth}
use Rattle.postcard_schema.specs.Lemmas.{type_of_leaf, type_of_option, type_of_seq, type_of_map, type_of_array, type_of_tuple, type_of_struct, type_of_enum}
use Rattle.postcard_schema.specs.Meaning.{MessageType, MessageTypes, seq, array, group, choice, no_types, then_type, entry_of, contents, has_bytes, type_of, types_of}
use Rattle.postcard_schema_text.specs.declared.angled.Holder.{Holder}
use Rattle.postcard_schema_text.specs.declared.angled.Holder.TheVariants as holders
use Rattle.postcard_schema_text.specs.declared.angled.Pair.{Pair}
use Rattle.postcard_schema_text.specs.declared.angled.Pair.TheVariants as pairs
use Rattle.postcard_schema_text.specs.declared.angled.Angled.TheVariants as kinds
use Rattle.postcard_schema_text.specs.declared.names.TypeName.TheVariants as names
use Rattle.postcard_schema_text.specs.Angled.{MayHold, IsHolderOf, MayPair, IsPairOf}
use Rattle.postcard_schema_text.specs.Grammar.{Separated, IsListRest, IsTupleRest, IsField, IsFieldsRest, IsMapRest, IsWorded, IsPlain, IsBehind, IsReferred, IsOptions, IsContent, IsVariantText, IsEnumText, IsType}

-- The elements of the type have bytes, and its depth is at most n.
pub record Bounded (n : ℕ) (t : MessageType) : Type 0 where
  pub full : ElementsHaveBytes t
  pub low : depth t ≤ n

-- The same of each type of a list.
pub record AllBounded (n : ℕ) (ts : MessageTypes) : Type 0 where
  pub full : AllElementsHaveBytes ts
  pub low : greatest_depth ts ≤ n

-- A type that is bounded by n is bounded by each greater number.
more : (n m : ℕ) (t : MessageType) → n ≤ m → Bounded n t → Bounded m t
more n m t le b = record { full = b.full; low = omega (arith, le, b.low) }

-- A list or a map of bounded elements that have bytes is bounded, one level deeper.
bounded_seq : (n : ℕ) (t : MessageType) → has_bytes t ≡ true → Bounded n t → Bounded (n + 1) (seq t)
bounded_seq n t full b = record { full = (full, b.full); low = omega (arith, b.low) }

-- An array nests one deeper than its element.
bounded_array : (n k : ℕ) (t : MessageType) → has_bytes t ≡ true → Bounded n t → Bounded (n + 1) (array k t)
bounded_array n k t full b = record { full = (full, b.full); low = omega (arith, b.low) }

-- A tuple or a struct nests one deeper than its parts.
bounded_group : (n : ℕ) (ts : MessageTypes) → AllBounded n ts → Bounded (n + 1) (group ts)
bounded_group n ts b = record { full = b.full; low = omega (arith, b.low) }

-- An enum nests one deeper than its contents.
bounded_choice : (n : ℕ) (ts : MessageTypes) → AllBounded n ts → Bounded (n + 1) (choice ts)
bounded_choice n ts b = record { full = b.full; low = omega (arith, b.low) }

-- No parts nest at all.
none : (n : ℕ) → AllBounded n no_types
none n = record { full = tt; low = omega arith }

-- One part and the parts after it.
one : (n : ℕ) (t : MessageType) (ts : MessageTypes) → Bounded n t → AllBounded n ts → AllBounded n (then_type t ts)
one n t ts b bs = record { full = (b.full, bs.full); low = omega (arith, b.low, bs.low) }

-- Each schema that T denotes has a type bounded by n.
abbrev Bounds : ℕ → (Schema → List ℕ → Type 0) → Type 0
Bounds n T = (s : Schema) (t : List ℕ) → T s t → Bounded n (type_of s)

-- Phrases in a row, with a sign between two of them, denote bounded types, if each phrase does.
row : (n : ℕ) (P : Schema → List ℕ → Type 0) (sign : ℕ) (ss : List Schema) (t : List ℕ) → Bounds n P → Separated P sign ss t → AllBounded n (types_of ss)
row n P sign [] t each h = absurd h
row n P sign (s ∷ []) t each h = one n (type_of s) no_types (each s t h) (none n)
row n P sign (s ∷ u ∷ ss) t each (a, b, h, (c, d, g, rest, e), f) = one n (type_of s) (types_of (u ∷ ss)) (each s a h) (row n P sign (u ∷ ss) d each rest)

-- The same of the contents of fields and variants.
abbrev BoundsNamed : ℕ → (Named Schema → List ℕ → Type 0) → Type 0
BoundsNamed n P = (x : Named Schema) (t : List ℕ) → P x t → Bounded n (type_of x.content)

-- The same of named phrases.
named_row : (n : ℕ) (P : Named Schema → List ℕ → Type 0) (sign : ℕ) (ns : List (Named Schema)) (t : List ℕ) → BoundsNamed n P → Separated P sign ns t
    → AllBounded n (types_of (contents ns))
named_row n P sign [] t each h = absurd h
named_row n P sign (x ∷ []) t each h = one n (type_of x.content) no_types (each x t h) (none n)
named_row n P sign (x ∷ y ∷ ns) t each (a, b, h, (c, d, g, rest, e), f) =
    one n (type_of x.content) (types_of (contents (y ∷ ns))) (each x a h) (named_row n P sign (y ∷ ns) d each rest)

-- The rest of a list or an array, after its `[`.
of_list : (n : ℕ) (T : Schema → List ℕ → Type 0) → Bounds n T → Bounds (n + 1) (IsListRest T)
of_list n T each s t (inl (b, is, full, (x, y, h, close, e))) = rw (is, type_of_seq b) (bounded_seq n (type_of b.value) full (each b.value x h))
of_list n T each s t (inr (b, k, is, full, (x, y, h, rest, e))) = rw (is, type_of_array b k) (bounded_array n k (type_of b.value) full (each b.value x h))

-- The rest of a tuple, after its `(`.
of_tuple : (n : ℕ) (T : Schema → List ℕ → Type 0) → Bounds n T → Bounds (n + 1) (IsTupleRest T)
of_tuple n T each s t (inl (v, is, empty, close)) = rw (is, type_of_tuple v, empty) (bounded_group n no_types (none n))
of_tuple n T each s t (inr (inl (x, y, h, close, e))) = more n (n + 1) (type_of s) (omega arith) (each s x h)
of_tuple n T each s t (inr (inr (v, is, (x, y, h, end, e)))) = rw (is, type_of_tuple v) (bounded_group n (types_of v.items) (row n T 44 v.items x each h))

-- A field of a struct.
of_field : (n : ℕ) (T : Schema → List ℕ → Type 0) → Bounds n T → BoundsNamed n (IsField T)
of_field n T each x t (named, (a, b, word, (u, v, colon, h, e), f)) = each x.content v h

-- The rest of a struct, after its `{`.
of_fields : (n : ℕ) (T : Schema → List ℕ → Type 0) → Bounds n T → Bounds (n + 1) (IsFieldsRest T)
of_fields n T each s t (v, is, differ, (x, y, h, end, e)) =
    rw (is, type_of_struct v) (bounded_group n (types_of (contents v.items)) (named_row n (IsField T) 44 v.items x (of_field n T each) h))

-- A type such as `Option<T>`: the holder of a bounded type.
of_one : (n : ℕ) (h : Holder) (x s : Schema) → MayHold h (type_of x) → IsHolderOf h x s → Bounded n (type_of x) → Bounded (n + 1) (type_of s)
of_one n holders.Itself x s may is inside = rw is (more n (n + 1) (type_of x) (omega arith) inside)
of_one n holders.List x s may (b, is, value) inside = rw (is, type_of_seq b, value) (bounded_seq n (type_of x) may inside)
of_one n holders.Option x s may (b, is, value) inside = rw (is, type_of_option b, value) record { full = inside.full; low = omega (arith, inside.low) }
of_one n (holders.Fixed order) x s may (integer, wide, made) inside = rw (made, type_of_leaf (Fixed order integer)) record { full = tt; low = omega arith }

-- A type such as `Result<T, E>`: a pair of bounded types.
of_two : (n : ℕ) (p : Pair) (x y s : Schema) → MayPair p (type_of x) (type_of y) → IsPairOf p x y s → Bounded n (type_of x) → Bounded n (type_of y)
    → Bounded (n + 2) (type_of s)
of_two n pairs.Map x y s may (b, c, is, key, value) first second =
    let inside : Bounded (n + 1) (entry_of (type_of x) (type_of y)) = bounded_group n _ (one n (type_of x) (then_type (type_of y) no_types) first (one n (type_of y) no_types second (none n))) in
    rw (is, type_of_map b c, key, value) (more (n + 1 + 1) (n + 2) (seq (entry_of (type_of x) (type_of y))) (omega arith) (bounded_seq (n + 1) (entry_of (type_of x) (type_of y)) may inside))
of_two n pairs.Result x y s may (v, a, b, is, items, (ok, good), (err, bad)) first second =
    let value : Bounded n (type_of a.content) = rw good first in
    let error : Bounded n (type_of b.content) = rw bad second in
    let parts : AllBounded n (types_of (contents v.items)) = rw items (one n (type_of a.content) (types_of (b.content ∷ [])) value (one n (type_of b.content) no_types error (none n))) in
    rw (is, type_of_enum v) (more (n + 1) (n + 2) (choice (types_of (contents v.items))) (omega arith) (bounded_choice n (types_of (contents v.items)) parts))

-- The rest of a map, after its `{`.
of_map : (n : ℕ) (T : Schema → List ℕ → Type 0) → Bounds n T → Bounds (n + 2) (IsMapRest T)
of_map n T each s t (x, y, may, is, (f, g, (f2, g2, key, equals, e2), (f3, g3, arrow, (f4, g4, value, close, e4), e3), e)) =
    of_two n pairs.Map x y s may is (each x f2 key) (each y f4 value)

-- A type that begins with its name.
of_worded : (n : ℕ) (T : Schema → List ℕ → Type 0) → Bounds n T → Bounds (n + 2) (IsWorded T)
of_worded n T each s t (names.Leaf l, name, named, (f, g, word, (is, nothing), e)) = rw (is, type_of_leaf l) record { full = tt; low = omega arith }
of_worded n T each s t (names.Angled (kinds.Holder h), name, named, (f, g, word, (f2, g2, open_sign, (x, may, is, (f3, g3, inside, close, e3)), e2), e)) =
    more (n + 1) (n + 2) (type_of s) (omega arith) (of_one n h x s may is (each x f3 inside))
of_worded n T each s t (names.Angled (kinds.Pair p), name, named, (f, g, word, (f2, g2, open_sign, (x, y, may, is, (f3, g3, (f4, g4, first, comma, e4), (f5, g5, second, close, e5), e3)), e2), e)) =
    of_two n p x y s may is (each x f4 first) (each y f5 second)

-- A type without `&` before it and `?` after it.
of_plain : (n : ℕ) (T : Schema → List ℕ → Type 0) → Bounds n T → Bounds (n + 2) (IsPlain T)
of_plain n T each s t (inl h) = of_worded n T each s t h
of_plain n T each s t (inr (inl (x, y, sign, h, e))) = more (n + 1) (n + 2) (type_of s) (omega arith) (of_list n T each s y h)
of_plain n T each s t (inr (inr (inl (x, y, sign, h, e)))) = more (n + 1) (n + 2) (type_of s) (omega arith) (of_tuple n T each s y h)
of_plain n T each s t (inr (inr (inr (x, y, sign, inl h, e)))) = more (n + 1) (n + 2) (type_of s) (omega arith) (of_fields n T each s y h)
of_plain n T each s t (inr (inr (inr (x, y, sign, inr h, e)))) = of_map n T each s y h

-- A type after `k` references.
of_behind : (n k : ℕ) (T : Schema → List ℕ → Type 0) → Bounds n T → Bounds (n + 2) (IsBehind k T)
of_behind n zero T each s t h = of_plain n T each s t h
of_behind n (suc k) T each s t (x, y, sign, inl h, e) = of_behind n k T each s y h
of_behind n (suc k) T each s t (x, y, sign, inr (x2, y2, quote, (name, named, (word, back, spelled, (apart, h), e3)), e2), e) = of_behind n k T each s back h

-- A type after any number of references.
of_referred : (n : ℕ) (T : Schema → List ℕ → Type 0) → Bounds n T → Bounds (n + 2) (IsReferred T)
of_referred n T each s t (k, h) = of_behind n k T each s t h

-- A type with `k` signs `?` after it nests `k` deeper.
of_options : (n k : ℕ) (P : Schema → List ℕ → Type 0) → Bounds n P → Bounds (n + k) (IsOptions k P)
of_options n zero P each s t h = more n (n + 0) (type_of s) (omega arith) (each s t h)
of_options n (suc k) P each s t (b, is, (x, y, h, sign, e)) =
    let inside : Bounded (n + k) (type_of b.value) = of_options n k P each b.value x h in
    rw (is, type_of_option b) record { full = inside.full; low = omega (arith, inside.low) }

-- The content of a variant.
of_content : (n : ℕ) (T : Schema → List ℕ → Type 0) → Bounds n T → Bounds (n + 1) (IsContent T)
of_content n T each s t (inl (x, y, sign, h, e)) = of_tuple n T each s y h
of_content n T each s t (inr (inl (x, y, sign, h, e))) = of_fields n T each s y h
of_content n T each s t (inr (inr (v, is, empty, nothing))) = rw (is, type_of_tuple v, empty) (bounded_group n no_types (none n))

-- A variant, with its name.
of_variant : (n : ℕ) (T : Schema → List ℕ → Type 0) → Bounds n T → BoundsNamed (n + 1) (IsVariantText T)
of_variant n T each x t (named, (a, b, word, h, e)) = of_content n T each x.content b h

-- An enum.
of_enum : (n : ℕ) (T : Schema → List ℕ → Type 0) → Bounds n T → Bounds (n + 2) (IsEnumText T)
of_enum n T each s t (v, is, differ, (x, y, lead, h, e)) = rw (is, type_of_enum v)
    (more (n + 1 + 1) (n + 2) (choice (types_of (contents v.items))) (omega arith)
    (bounded_choice (n + 1) (types_of (contents v.items)) (named_row (n + 1) (IsVariantText T) 124 v.items y (of_variant n T each) h)))

-- Each level of brackets adds at most six levels of types: four options, a map and its entries.
pub type_bounded : (d : ℕ) (s : Schema) (t : List ℕ) → IsType d s t → Bounded (6 * d) (type_of s)
unfolding IsType
type_bounded zero s t h = absurd h
type_bounded (suc d) s t (inl h) = more (6 * d + 2) (6 * suc d) (type_of s) (omega arith) (of_enum (6 * d) (IsType d) (type_bounded d) s t h)
type_bounded (suc d) s t (inr (k, few, h)) =
    more (6 * d + 2 + k) (6 * suc d) (type_of s) (omega (arith, few)) (of_options (6 * d + 2) k (IsReferred (IsType d)) (of_referred (6 * d) (IsType d) (type_bounded d)) s t h)
