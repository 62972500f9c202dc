-- Lemmas for `flattened`: the flattened type has the same messages, by the kind of type. A row is built part by part.
use Rattle.std.proofs.Common.{◌≡◌, ℕ, ◌+◌, ◌<◌, List, [], ◌∷◌, ◌++◌, map, length, length-append, get_or, take, Vec, Box, refl, sym, ap, subst, ◌∙◌, arith}
use Rattle.std.proofs.Math.ListN.{replicate}
use Rattle.std.proofs.lemmas.List.{map-append, replicate_more, take_more}
use Rattle.std.proofs.lemmas.List.Elements.{AllZip-push}
use Rattle.std.specs.List.{AllZip}
use Rattle.std.specs.declared.alloc.Global.{Global}
use Rattle.postcard_schema.specs.declared.leaf.Integer.TheVariants.{U8}
use Rattle.postcard_schema.specs.declared.leaf.Leaf.{Leaf}
use Rattle.postcard_schema.specs.declared.leaf.Leaf.TheVariants as leaves
use Rattle.postcard_schema.specs.declared.schema.Named.{Named}
use Rattle.postcard_schema.specs.declared.schema.Schema.{Schema}
use Rattle.postcard_schema.specs.declared.schema.Schema.TheVariants as schemas
use Rattle.postcard_schema.specs.Lemmas.{type_of_leaf, type_of_option, type_of_seq, type_of_map, type_of_array, type_of_tuple, type_of_struct, type_of_enum}
use Rattle.postcard_schema.specs.Meaning.{MessageType, array, choice, then_type, contents, entry_of, group, leaf, reads, row_of, seq, type_of, types_of}
use Rattle.postcard_compat.specs.Parts.{part_types}
use Rattle.postcard_compat.specs.Said.{said}
use Rattle.postcard_compat.specs.Serving.{SameMessages, SameRows}
use Rattle.postcard_compat.proofs.Served.{itself}
use Rattle.postcard_compat.proofs.Alike.{same, same_after, rows_after, option_same, seq_same, array_same, group_same, choice_same}
use Rattle.postcard_compat.proofs.Splices.{rows_join, rows_one, no_parts_same, parts_same, part_same, whole_same}

-- ---- Structs and enums

-- The two definitions of the types of fields in a row give the same row.
named_row : (ns : List (Named Schema)) → types_of (contents ns) ≡ row_of (part_types ns)
named_row [] = refl
named_row (n ∷ ns) = ap (λ z. then_type (type_of n.content) z) (named_row ns)

-- The type of a struct is the group of its row.
struct_row : (v : Vec (Named Schema) Global) → type_of (schemas.Struct v) ≡ group (row_of (part_types v.items))
struct_row v = type_of_struct v ∙ ap group (named_row v.items)

-- The type of an enum is the choice of its row.
enum_row : (v : Vec (Named Schema) Global) → type_of (schemas.Enum v) ≡ choice (row_of (part_types v.items))
enum_row v = type_of_enum v ∙ ap choice (named_row v.items)

-- ---- Types of one part

module _ (s d : Schema) (a b : Box Schema Global) (held : d ≡ a.value) (h : SameMessages (type_of b.value) (type_of d)) where
  within : SameMessages (type_of b.value) (type_of a.value)
  within = subst (λ z. SameMessages (type_of b.value) (type_of z)) held h

  pub flat_option : s ≡ schemas.Option a → SameMessages (type_of (schemas.Option b)) (type_of s)
  flat_option is = rw (is, type_of_option a, type_of_option b) (option_same (type_of b.value) (type_of a.value) within)

  pub flat_seq : s ≡ schemas.Seq a → SameMessages (type_of (schemas.Seq b)) (type_of s)
  flat_seq is = rw (is, type_of_seq a, type_of_seq b) (seq_same (type_of b.value) (type_of a.value) within)

-- A type without parts is flattened to itself.
pub leaf_same : (s d : Schema) (l : Leaf) → SameMessages (type_of d) (leaf l) → s ≡ schemas.Leaf l → SameMessages (type_of d) (type_of s)
leaf_same s d l h is = rw (is, type_of_leaf l) h

-- A map is flattened to a list of pairs.
pub flat_map : (s k v : Schema) (a x b : Box Schema Global) (keys values entry : List MessageType) → k ≡ a.value → v ≡ x.value
    → SameRows keys (type_of k ∷ []) → SameRows values (type_of v ∷ []) → entry ≡ keys ++ values → SameMessages (type_of b.value) (group (row_of entry))
    → s ≡ schemas.Map a x → SameMessages (type_of (schemas.Seq b)) (type_of s)
flat_map s k v a x b keys values entry ek ev hk hv e h is =
    let old = type_of k ∷ type_of v ∷ [] in
    let pair : SameRows entry old = subst (λ z. SameRows z old) (sym e) (rows_join keys (type_of k ∷ []) values (type_of v ∷ []) hk hv) in
    let both : SameMessages (type_of b.value) (entry_of (type_of k) (type_of v)) =
    same_after (type_of b.value) (group (row_of entry)) (group (row_of old)) h (group_same entry old pair) in
    rw (is, type_of_map a x, type_of_seq b, ← ek, ← ev) (seq_same (type_of b.value) (entry_of (type_of k) (type_of v)) both)

-- An enum is flattened variant by variant.
pub flat_enum : (s : Schema) (v w : Vec (Named Schema) Global) → AllZip SameMessages (part_types w.items) (part_types v.items) → s ≡ schemas.Enum v
    → SameMessages (type_of (schemas.Enum w)) (type_of s)
flat_enum s v w h is = rw (is, enum_row v, enum_row w) (choice_same (part_types w.items) (part_types v.items) h)

-- ---- Types of several parts

-- A row that is that of a type's parts is the row of the type.
pub of_parts : (s : Schema) (row parts : List MessageType) → SameRows row parts → type_of s ≡ group (row_of parts) → SameRows row (type_of s ∷ [])
of_parts s row parts h is =
    subst (λ z. SameRows row (z ∷ [])) (sym is) (rows_after row parts (group (row_of parts) ∷ []) h (parts_same parts))

-- The row of a tuple is those of its parts, joined.
pub flat_tuple : (s : Schema) (v : Vec Schema Global) (row : List MessageType) → SameRows row (map type_of v.items) → s ≡ schemas.Tuple v
    → SameRows row (type_of s ∷ [])
flat_tuple s v row h is = of_parts s row (map type_of v.items) h (ap type_of is ∙ type_of_tuple v)

-- The row of a struct is those of its fields, joined.
pub flat_struct : (s : Schema) (v : Vec (Named Schema) Global) (row : List MessageType) → SameRows row (part_types v.items) → s ≡ schemas.Struct v
    → SameRows row (type_of s ∷ [])
flat_struct s v row h is = of_parts s row (part_types v.items) h (ap type_of is ∙ struct_row v)

-- If a row has the messages of an array of the element's row, it has those of the array.
pub flat_array : (s d : Schema) (a : Box Schema Global) (n : ℕ) (element row : List MessageType) → d ≡ a.value → SameRows element (type_of d ∷ [])
    → SameRows row (array n (group (row_of element)) ∷ []) → s ≡ schemas.Array a n → SameRows row (type_of s ∷ [])
flat_array s d a n element row held h k is =
    let one = array n (group (row_of element)) in
    let other = array n (type_of d) in
    rw (is, type_of_array a n, ← held)
    (rows_after row (one ∷ []) (other ∷ []) k
    (rows_one one other (array_same n (group (row_of element)) (type_of d) (whole_same element (type_of d) h))))

-- An array of elements without bytes has the empty row.
pub flat_empty : (es : List (Named Schema)) (n : ℕ) → es ≡ [] → SameRows [] (array n (group (row_of (part_types es))) ∷ [])
flat_empty es n e = rw e (no_parts_same n)

-- A long array stays an array of the flattened element.
pub flat_kept : (d : Schema) (b : Box Schema Global) (n : ℕ) (es : List MessageType) → b.value ≡ d → SameMessages (type_of d) (group (row_of es))
    → SameMessages (type_of (schemas.Array b n)) (array n (group (row_of es)))
flat_kept d b n es held h = rw (type_of_array b n, held) (array_same n (type_of d) (group (row_of es)) h)

-- ---- A row as one type

-- A struct has the messages of the group of its parts.
pub struct_same : (v : Vec (Named Schema) Global) → SameMessages (type_of (schemas.Struct v)) (group (row_of (part_types v.items)))
struct_same v = rw (struct_row v) (same (group (row_of (part_types v.items))))

-- A list of one element, with a last element, has just that.
last_alone : {A : Type 0} (xs ys : List A) (x : A) → length xs ≡ 1 → xs ≡ ys ++ x ∷ [] → xs ≡ x ∷ []
last_alone xs [] x one e = e
last_alone xs (y ∷ ys) x one e = absurd (omega (arith, one, ap length e, length-append ys (x ∷ [])))

-- A row of one part is that part.
pub only_same : (xs ys : List (Named Schema)) (x : Named Schema) → length xs ≡ 1 → xs ≡ ys ++ x ∷ []
    → SameMessages (type_of x.content) (group (row_of (part_types xs)))
only_same xs ys x one e = rw (last_alone xs ys x one e) (part_same (type_of x.content))

-- ---- Part after part

next_types : {A : Type 0} (f : A → MessageType) (xs : List A) (i : ℕ) (x : A) → i < length xs → x ≡ get_or xs i x
    → map f (take (i + 1) xs) ≡ map f (take i xs) ++ f x ∷ []
next_types f xs i x low is = ap (map f) (take_more xs i x low ∙ ap (λ z. take i xs ++ z ∷ []) (sym is)) ∙ map-append f (take i xs) (x ∷ [])

-- One part more adds its row.
pub row_more : {A : Type 0} (f : A → MessageType) (xs : List A) (i : ℕ) (x : A) (row inner new : List MessageType) → i < length xs → x ≡ get_or xs i x
    → SameRows row (map f (take i xs)) → SameRows inner (f x ∷ []) → new ≡ row ++ inner → SameRows new (map f (take (i + 1) xs))
row_more f xs i x row inner new low is h k e = rw (e, next_types f xs i x low is) (rows_join row (map f (take i xs)) inner (f x ∷ []) h k)

-- One variant more adds its flattened content.
pub variant_more : (xs : List (Named Schema)) (i : ℕ) (x y : Named Schema) (flat new : List (Named Schema)) → i < length xs → x ≡ get_or xs i x
    → AllZip SameMessages (part_types flat) (part_types (take i xs)) → SameMessages (type_of y.content) (type_of x.content) → new ≡ flat ++ y ∷ []
    → AllZip SameMessages (part_types new) (part_types (take (i + 1) xs))
variant_more xs i x y flat new low is h k e =
    let f = λ (n : Named Schema). type_of n.content in
    rw (e, map-append f flat (y ∷ []), next_types f xs i x low is) (AllZip-push SameMessages (map f flat) (map f (take i xs)) (f y) (f x) h k)

-- One element more adds its row.
pub element_more : (row element new : List MessageType) (i : ℕ) → SameRows row (replicate i (group (row_of element))) → new ≡ row ++ element
    → SameRows new (replicate (i + 1) (group (row_of element)))
element_more row element new i h e =
    let x = group (row_of element) in
    rw (e, ← replicate_more i x) (rows_join row (replicate i x) element (x ∷ []) h (parts_same element))

-- ---- Byte strings

-- A list of `u8` has the messages of `bytes`.
pub bytes_same : (b : Box Schema Global) (l : Leaf) → b.value ≡ schemas.Leaf (leaves.Integer U8) → l ≡ leaves.Bytes → SameMessages (type_of (schemas.Seq b)) (leaf l)
bytes_same b l held is =
    let bytes = seq (leaf (leaves.Integer U8)) in
    rw (is, type_of_seq b, held, type_of_leaf (leaves.Integer U8)) (record { serves = itself (reads bytes) (said bytes); is_served = itself (reads bytes) (said bytes) })

-- A list of length 0 is empty.
pub no_items : {A : Type 0} (xs : List A) → length xs ≡ 0 → xs ≡ []
no_items [] e = refl
no_items (x ∷ xs) e = absurd (omega (arith, e))

pub alone_type : (old new : List (Named Schema)) (x : Named Schema) → new ≡ old ++ x ∷ [] → old ≡ [] → part_types new ≡ type_of x.content ∷ []
alone_type old new x e none = ap part_types (e ∙ ap (λ ns. ns ++ x ∷ []) none)
