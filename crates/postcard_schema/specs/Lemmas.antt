-- Lemmas for proofs of programs that read or build values of a schema.
use Rattle.std.proofs.Common.{◌≡◌, ℕ, zero, suc, ◌<◌, List, [], ◌∷◌, ◌++◌, map, get_or, length, refl, sym, ap, arith, rules, Box, Vec}
use Rattle.std.specs.declared.alloc.Global.{Global}
use Rattle.postcard_wire.specs.Tree.{Tree}
use Rattle.postcard_schema.specs.declared.leaf.Integer.{Integer}
use Rattle.postcard_schema.specs.declared.leaf.Integer.TheVariants.{U8, U16, U32, U64, U128, I8, I16, I32, I64, I128}
use Rattle.postcard_schema.specs.declared.leaf.Leaf.{Leaf}
use Rattle.postcard_schema.specs.declared.schema.Named.{Named}
use Rattle.postcard_schema.specs.declared.schema.Schema.{Schema, the_lemmas}
use Rattle.postcard_schema.specs.declared.schema.Schema.TheVariants.{Option, Seq, Map, Array, Tuple, Struct, Enum}
use Rattle.postcard_schema.specs.declared.schema.Schema.TheShapes.{former-Schema-Struct-0-at-2}
use Rattle.postcard_schema.specs.declared.schema.Schema.TheVariants as schemas
use Rattle.postcard_schema.specs.Leaves.{size_of}
use Rattle.postcard_schema.specs.Meaning.{MessageType, leaf, option, seq, array, group, choice, entry_of, contents, reads, reads_at, type_of, types_of}

-- The type of a schema, by its kind.
pub type_of_leaf : (l : Leaf) → type_of (schemas.Leaf l) ≡ leaf l
type_of_leaf l = search (rules, the_lemmas)

pub type_of_option : (b : Box Schema Global) → type_of (Option b) ≡ option (type_of b.value)
type_of_option b = search (rules, the_lemmas)

pub type_of_seq : (b : Box Schema Global) → type_of (Seq b) ≡ seq (type_of b.value)
type_of_seq b = search (rules, the_lemmas)

pub type_of_map : (k v : Box Schema Global) → type_of (Map k v) ≡ seq (entry_of (type_of k.value) (type_of v.value))
type_of_map k v = search (rules, the_lemmas)

pub type_of_array : (b : Box Schema Global) (n : ℕ) → type_of (Array b n) ≡ array n (type_of b.value)
type_of_array b n = search (rules, the_lemmas)

pub type_of_tuple : (v : Vec Schema Global) → type_of (Tuple v) ≡ group (types_of v.items)
type_of_tuple v = search (rules, the_lemmas)

-- What maps names to names with mapped contents maps the contents of a list of names.
contents_map : {A B : Type 0} (m : Named A → Named B) (f : A → B) (each : (n : Named A) → (m n).content ≡ f n.content) (ns : List (Named A))
    → contents (map m ns) ≡ map f (contents ns)
contents_map m f each [] = refl
contents_map m f each (n ∷ ns) = rw (each n) (ap (λ ts. f n.content ∷ ts) (contents_map m f each ns))

-- The step of the fold keeps the types of the contents.
named_types : (ns : List (Named Schema)) → contents (map (former-Schema-Struct-0-at-2.map Schema MessageType type_of) ns) ≡ map type_of (contents ns)
named_types ns = contents_map (former-Schema-Struct-0-at-2.map Schema MessageType type_of) type_of (λ n. refl) ns

pub type_of_struct : (v : Vec (Named Schema) Global) → type_of (Struct v) ≡ group (types_of (contents v.items))
type_of_struct v = search (rules, the_lemmas, named_types)

pub type_of_enum : (v : Vec (Named Schema) Global) → type_of (Enum v) ≡ choice (types_of (contents v.items))
type_of_enum v = search (rules, the_lemmas, named_types)

-- The trees at an index of a list of types are those of the schema at that index.
pub type_at : (ss : List Schema) (i : ℕ) (s : Schema) → i < length ss → s ≡ get_or ss i s → reads_at (types_of ss) i ≡ reads (type_of s)
type_at [] i s low e = absurd (omega (arith, low))
type_at (x ∷ xs) zero s low e = ap (λ z. reads (type_of z)) (sym e)
type_at (x ∷ xs) (suc i) s low e = type_at xs i s (omega (arith, low)) e

-- An index past the last type has no trees.
pub none_at : (ss : List Schema) (i : ℕ) (t : Tree) → (i < length ss → ⊥) → reads_at (types_of ss) i t → ⊥
none_at [] i t high r = r
none_at (x ∷ xs) zero t high r = high (omega arith)
none_at (x ∷ xs) (suc i) t high r = none_at xs i t (λ low. high (omega (arith, low))) r

-- The same for the contents of fields or variants.
pub content_at : (ns : List (Named Schema)) (i : ℕ) (n : Named Schema) → i < length ns → n ≡ get_or ns i n
    → reads_at (types_of (contents ns)) i ≡ reads (type_of n.content)
content_at [] i n low e = absurd (omega (arith, low))
content_at (x ∷ xs) zero n low e = ap (λ z. reads (type_of z.content)) (sym e)
content_at (x ∷ xs) (suc i) n low e = content_at xs i n (omega (arith, low)) e

-- An index past the last field or variant has no trees.
pub no_content_at : (ns : List (Named Schema)) (i : ℕ) (t : Tree) → (i < length ns → ⊥) → reads_at (types_of (contents ns)) i t → ⊥
no_content_at [] i t high r = r
no_content_at (x ∷ xs) zero t high r = high (omega arith)
no_content_at (x ∷ xs) (suc i) t high r = no_content_at xs i t (λ low. high (omega (arith, low))) r

-- The contents of one list and then another are those of the first and then those of the second.
pub contents_append : {A : Type 0} (ns ms : List (Named A)) → contents (ns ++ ms) ≡ contents ns ++ contents ms
contents_append [] ms = refl
contents_append (n ∷ ns) ms = ap (λ xs. n.content ∷ xs) (contents_append ns ms)

-- A list of names has one content for each name.
pub contents_length : {A : Type 0} (ns : List (Named A)) → length (contents ns) ≡ length ns
contents_length [] = refl
contents_length (n ∷ ns) = ap suc (contents_length ns)

-- A number has bytes.
pub size_some : (i : Integer) → 0 < size_of i
size_some U8 = omega arith
size_some U16 = omega arith
size_some U32 = omega arith
size_some U64 = omega arith
size_some U128 = omega arith
size_some I8 = omega arith
size_some I16 = omega arith
size_some I32 = omega arith
size_some I64 = omega arith
size_some I128 = omega arith
