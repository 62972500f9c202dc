-- Lemmas for `serves`: when a schema serves another, by the kind of schema, and when a row serves another, part by part.
use Rattle.std.proofs.Common.{◌≡◌, ℕ, zero, suc, ◌+◌, ◌<◌, ◌≤◌, List, [], ◌∷◌, length, get_or, drop, Vec, Box, refl, sym, ap, subst, ◌∙◌, arith}
use Rattle.std.proofs.Math.Seq.{drop-cons}
use Rattle.std.proofs.Math.ListN.{drop_of_length-le}
use Rattle.std.specs.declared.alloc.Global.{Global}
use Rattle.postcard_schema.specs.declared.leaf.Leaf.{Leaf}
use Rattle.postcard_schema.specs.declared.schema.Named.{Named}
use Rattle.postcard_schema.specs.declared.schema.Schema.{Schema}
use Rattle.postcard_schema.specs.declared.schema.Schema.TheVariants as schemas
use Rattle.postcard_schema.specs.Meaning.{MessageType, MessageTypes, leaf, option, seq, array, group, choice, no_types, then_type, entry_of, contents, reads, reads_all, reads_at, type_of, types_of}
use Rattle.postcard_schema.specs.Lemmas.{type_of_leaf, type_of_option, type_of_seq, type_of_map, type_of_array, type_of_tuple, type_of_struct, type_of_enum}
use Rattle.postcard_compat.specs.Said.{said, said_all, said_at}
use Rattle.postcard_compat.specs.Serving.{Serves, AllServe, SameMessages, VariantsServe}
use Rattle.postcard_compat.proofs.Served.{through, option_serves, seq_serves, array_serves, group_serves, choice_serves, choice_serves_option, end_serves, then_serves, none_serve, variant_serves}

-- Equal types serve the same types.
by : (n o x y : MessageType) → n ≡ x → o ≡ y → Serves x y → Serves n o
by n o x y en eo h = subst (λ z. Serves n z) (sym eo) (subst (λ z. Serves z y) (sym en) h)

-- If the schemas are leaves, and the new leaf serves the old one, the new schema serves the old one.
pub of_leaf : (s n : Schema) (o w : Leaf) → s ≡ schemas.Leaf o → n ≡ schemas.Leaf w → Serves (leaf w) (leaf o) → Serves (type_of n) (type_of s)
of_leaf s n o w is new_is h = by (type_of n) (type_of s) (leaf w) (leaf o) (ap type_of new_is ∙ type_of_leaf w) (ap type_of is ∙ type_of_leaf o) h

-- If a schema serves another, it does so where each is the content of a box.
held : (d e : Schema) (a b : Box Schema Global) → d ≡ a.value → e ≡ b.value → Serves (type_of e) (type_of d) → Serves (type_of b.value) (type_of a.value)
held d e a b is new_is = by (type_of b.value) (type_of a.value) (type_of e) (type_of d) (ap type_of (sym new_is)) (ap type_of (sym is))

module _ (s n d e : Schema) (a b : Box Schema Global) (old_held : d ≡ a.value) (new_held : e ≡ b.value) (h : Serves (type_of e) (type_of d)) where
  within : Serves (type_of b.value) (type_of a.value)
  within = held d e a b old_held new_held h

  pub of_seq : s ≡ schemas.Seq a → n ≡ schemas.Seq b → Serves (type_of n) (type_of s)
  of_seq is new_is = by (type_of n) (type_of s) (seq (type_of b.value)) (seq (type_of a.value)) (ap type_of new_is ∙ type_of_seq b) (ap type_of is ∙ type_of_seq a)
      (seq_serves (reads (type_of b.value)) (said (type_of b.value)) (reads (type_of a.value)) (said (type_of a.value)) within)

  pub of_array : (j k : ℕ) → j ≡ k → s ≡ schemas.Array a j → n ≡ schemas.Array b k → Serves (type_of n) (type_of s)
  of_array j k same is new_is = by (type_of n) (type_of s) (array k (type_of b.value)) (array k (type_of a.value))
      (ap type_of new_is ∙ type_of_array b k) (ap type_of is ∙ (type_of_array a j ∙ ap (λ m. array m (type_of a.value)) same))
      (array_serves (reads (type_of b.value)) (said (type_of b.value)) (reads (type_of a.value)) (said (type_of a.value)) within k)

-- A schema serves an option if it serves the option of each type that its content serves.
pub of_option : (s n d e : Schema) (a : Box Schema Global) → d ≡ a.value → ((x : MessageType) → Serves (type_of e) x → Serves (type_of n) (option x))
    → Serves (type_of e) (type_of d) → s ≡ schemas.Option a → Serves (type_of n) (type_of s)
of_option s n d e a held stands h is = rw (is, type_of_option a, ← held) (stands (type_of d) h)

-- Entries of maps serve if their keys and their values do.
entries_serve : (k v x y : MessageType) → Serves k x → Serves v y → Serves (entry_of k v) (entry_of x y)
entries_serve k v x y hk hv =
    let ns = then_type k (then_type v no_types) in
    let os = then_type x (then_type y no_types) in
    group_serves (reads_all ns) (said_all ns) (reads_all os) (said_all os)
    (then_serves k x (then_type v no_types) (then_type y no_types) hk (then_serves v y no_types no_types hv end_serves))

-- A map serves a map if its keys serve the other's keys, and its values the other's values.
pub of_map : (s n : Schema) (a x b y : Box Schema Global) (da dx db dy : Schema) → da ≡ a.value → dx ≡ x.value → db ≡ b.value → dy ≡ y.value
    → Serves (type_of db) (type_of da) → Serves (type_of dy) (type_of dx) → s ≡ schemas.Map a x → n ≡ schemas.Map b y → Serves (type_of n) (type_of s)
of_map s n a x b y da dx db dy ea ex eb ey key value is new_is =
    let new = entry_of (type_of b.value) (type_of y.value) in
    let old = entry_of (type_of a.value) (type_of x.value) in
    by (type_of n) (type_of s) (seq new) (seq old) (ap type_of new_is ∙ type_of_map b y) (ap type_of is ∙ type_of_map a x)
    (seq_serves (reads new) (said new) (reads old) (said old)
    (entries_serve (type_of b.value) (type_of y.value) (type_of a.value) (type_of x.value) (held da db a b ea eb key) (held dx dy x y ex ey value)))

-- If the parts of a row each serve the part at their place in a row of the same length, the row serves that row.
all_serve : (ns os : List Schema) → length os ≡ length ns → VariantsServe (types_of ns) (types_of os) → AllServe (types_of ns) (types_of os)
all_serve [] [] e h = end_serves
all_serve [] (o ∷ os) e h = absurd (omega (arith, e))
all_serve (n ∷ ns) [] e h = absurd (omega (arith, e))
all_serve (n ∷ ns) (o ∷ os) e h = then_serves (type_of n) (type_of o) (types_of ns) (types_of os) (h 0) (all_serve ns os (omega (arith, e)) (λ i. h (suc i)))

of_group : (s n : Schema) (os ns : List Schema) → type_of s ≡ group (types_of os) → SameMessages (type_of n) (group (types_of ns)) → length os ≡ length ns
    → VariantsServe (types_of ns) (types_of os) → Serves (type_of n) (type_of s)
of_group s n os ns is new many h =
    let old = group (types_of os) in
    let row = group (types_of ns) in
    let parts : Serves row old = group_serves (reads_all (types_of ns)) (said_all (types_of ns)) (reads_all (types_of os)) (said_all (types_of os)) (all_serve ns os many h) in
    subst (λ z. Serves (type_of n) z) (sym is) (through (reads (type_of n)) (said (type_of n)) (reads row) (said row) (reads old) (said old) new.serves parts)

-- A schema whose messages are those of a row serves a tuple if the row has as many parts and each serves the part at its place.
pub of_tuple : (s n : Schema) (v : Vec Schema Global) (ns : List Schema) → s ≡ schemas.Tuple v → SameMessages (type_of n) (group (types_of ns))
    → length v.items ≡ length ns → VariantsServe (types_of ns) (types_of v.items) → Serves (type_of n) (type_of s)
of_tuple s n v ns is = of_group s n v.items ns (ap type_of is ∙ type_of_tuple v)

-- A schema whose messages are those of a row serves a struct if the row has as many parts and each serves the field at its place.
pub of_struct : (s n : Schema) (v : Vec (Named Schema) Global) (ns : List Schema) → s ≡ schemas.Struct v → SameMessages (type_of n) (group (types_of ns))
    → length (contents v.items) ≡ length ns → VariantsServe (types_of ns) (types_of (contents v.items)) → Serves (type_of n) (type_of s)
of_struct s n v ns is = of_group s n (contents v.items) ns (ap type_of is ∙ type_of_struct v)

-- An enum serves an enum if its variants serve those of the other.
pub of_enum : (s n : Schema) (v w : Vec (Named Schema) Global) → s ≡ schemas.Enum v → n ≡ schemas.Enum w
    → VariantsServe (types_of (contents w.items)) (types_of (contents v.items)) → Serves (type_of n) (type_of s)
of_enum s n v w is new_is h =
    let ns = types_of (contents w.items) in
    let os = types_of (contents v.items) in
    by (type_of n) (type_of s) (choice ns) (choice os) (ap type_of new_is ∙ type_of_enum w) (ap type_of is ∙ type_of_enum v)
    (choice_serves (reads_at ns) (said_at ns) (reads_at os) (said_at os) h)

-- ---- An option that is an enum

-- An option reads an option if its content serves the other's content.
pub option_as_option : (n : Schema) (d : Schema) (b : Box Schema Global) → n ≡ schemas.Option b → d ≡ b.value
    → (x : MessageType) → Serves (type_of d) x → Serves (type_of n) (option x)
option_as_option n d b is held x h =
    rw (is, type_of_option b, ← held) (option_serves (reads (type_of d)) (said (type_of d)) (reads x) (said x) h)

two_variants : (ns : List (Named Schema)) (a b : Named Schema) → 1 < length ns → a ≡ get_or ns 0 a → b ≡ get_or ns 1 b
    → (more : MessageTypes) × (types_of (contents ns) ≡ then_type (type_of a.content) (then_type (type_of b.content) more))
two_variants [] a b low ea eb = absurd (omega (arith, low))
two_variants (x ∷ []) a b low ea eb = absurd (omega (arith, low))
two_variants (x ∷ y ∷ ns) a b low ea eb = (types_of (contents ns), rw (ea, eb) refl)

-- A list of no schemas has no types.
no_parts : (xs : List Schema) → length xs ≡ 0 → types_of xs ≡ no_types
no_parts [] e = refl
no_parts (x ∷ xs) e = absurd (omega (arith, e))

-- An enum whose first variant has no bytes reads an option by its second variant.
pub enum_as_option : (n : Schema) (v : Vec (Named Schema) Global) (a b : Named Schema) (ns : List Schema) → n ≡ schemas.Enum v → 1 < length v.items
    → a ≡ get_or v.items 0 a → b ≡ get_or v.items 1 b → SameMessages (type_of a.content) (group (types_of ns)) → length ns ≡ 0
    → (x : MessageType) → Serves (type_of b.content) x → Serves (type_of n) (option x)
enum_as_option n v a b ns is low ea eb h none x k =
    let (more, e) = two_variants v.items a b low ea eb in
    let empty : Serves (type_of a.content) (group no_types) = subst (λ z. Serves (type_of a.content) (group z)) (no_parts ns none) h.serves in
    rw (is, type_of_enum v, e) (choice_serves_option (type_of a.content) (type_of b.content) x more empty k)

-- ---- Parts

pub content_get : (ns : List (Named Schema)) (i : ℕ) (n : Named Schema) → i < length ns → n ≡ get_or ns i n → n.content ≡ get_or (contents ns) i n.content
content_get [] i n low e = absurd (omega (arith, low))
content_get (x ∷ xs) zero n low e = ap (λ z. z.content) e
content_get (x ∷ xs) (suc i) n low e = content_get xs i n (omega (arith, low)) e

pub cut : (xs : List Schema) (k : ℕ) (x : Schema) → k < length xs → x ≡ get_or xs k x → drop k xs ≡ x ∷ drop (k + 1) xs
cut xs k x h e =
    let next : suc k ≡ k + 1 = omega arith in
    drop-cons xs k x h ∙ ap (λ y. y ∷ drop (suc k) xs) (sym e) ∙ ap (λ n. x ∷ drop n xs) next

-- If the parts from k on serve, if those after k do, all do.
pub parts_next : (ns os : List Schema) (k : ℕ) (n o : Schema) {Z : Type 0} → k < length ns → n ≡ get_or ns k n → k < length os → o ≡ get_or os k o → Serves (type_of n) (type_of o)
    → (VariantsServe (types_of (drop k ns)) (types_of (drop k os)) → Z) → VariantsServe (types_of (drop (k + 1) ns)) (types_of (drop (k + 1) os)) → Z
parts_next ns os k n o ln en lo eo h all rest =
    all (subst (λ ys. VariantsServe (types_of ys) (types_of (drop k os))) (sym (cut ns k n ln en))
    (subst (λ ys. VariantsServe (types_of (n ∷ drop (k + 1) ns)) (types_of ys)) (sym (cut os k o lo eo))
    (variant_serves (type_of n) (type_of o) (types_of (drop (k + 1) ns)) (types_of (drop (k + 1) os)) h rest)))

-- If index k is past the last old part, the parts from k on serve.
pub parts_end : (ns os : List Schema) (k : ℕ) {Z : Type 0} → length os ≤ k → (VariantsServe (types_of (drop k ns)) (types_of (drop k os)) → Z) → Z
parts_end ns os k high all =
    all (subst (λ ys. VariantsServe (types_of (drop k ns)) (types_of ys)) (sym (drop_of_length-le os high)) (none_serve (types_of (drop k ns))))
