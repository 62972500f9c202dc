-- The views of schemas, by their kinds, and lists of names whose contents have the same types.
use Rattle.std.proofs.Common.{◌≡◌, ℕ, List, [], ◌∷◌, map, Box, Vec, refl, sym, ap, ◌∙◌, rules}
use Rattle.std.specs.declared.alloc.Global.{Global}
use Rattle.std.proofs.lemmas.Simd.{map-map}
use Rattle.postcard_schema.specs.Meaning.{contents, row_of, type_of, types_of}
use Rattle.postcard_schema.specs.Views.{View, leaf_view, option_view, seq_view, map_view, array_view, tuple_view, struct_view, enum_view, named, named_views, view, views}
use Rattle.postcard_schema.specs.declared.leaf.Leaf.{Leaf}
use Rattle.postcard_schema.specs.declared.schema.Named.{Named}
use Rattle.postcard_schema.specs.declared.schema.Schema.{Schema, the_lemmas}
use Rattle.postcard_schema.specs.declared.schema.Schema.TheShapes.{former-Schema-Struct-0-at-2}
use Rattle.postcard_schema.specs.declared.schema.Schema.TheVariants as schemas

-- The view of a schema, by its kind.
pub view_leaf : (l : Leaf) → view (schemas.Leaf l) ≡ leaf_view l
view_leaf l = search (rules, the_lemmas)

pub view_option : (b : Box Schema Global) → view (schemas.Option b) ≡ option_view (view b.value)
view_option b = search (rules, the_lemmas)

pub view_seq : (b : Box Schema Global) → view (schemas.Seq b) ≡ seq_view (view b.value)
view_seq b = search (rules, the_lemmas)

pub view_map : (k v : Box Schema Global) → view (schemas.Map k v) ≡ map_view (view k.value) (view v.value)
view_map k v = search (rules, the_lemmas)

pub view_array : (b : Box Schema Global) (n : ℕ) → view (schemas.Array b n) ≡ array_view n (view b.value)
view_array b n = search (rules, the_lemmas)

pub view_tuple : (v : Vec Schema Global) → view (schemas.Tuple v) ≡ tuple_view (views v.items)
view_tuple v = search (rules, the_lemmas)

seen : (ns : List (Named Schema)) → map (named (λ view. view)) (map (former-Schema-Struct-0-at-2.map Schema View view) ns) ≡ map (named view) ns
seen ns = map-map (named (λ (v : View). v)) (former-Schema-Struct-0-at-2.map Schema View view) ns

-- The view of a struct is made of the views of its fields.
pub view_struct : (v : Vec (Named Schema) Global) → view (schemas.Struct v) ≡ struct_view (named_views v.items)
view_struct v = search (rules, the_lemmas, seen)

-- The view of an enum is made of the views of its variants.
pub view_enum : (v : Vec (Named Schema) Global) → view (schemas.Enum v) ≡ enum_view (named_views v.items)
view_enum v = search (rules, the_lemmas, seen)

-- Lists whose elements have contents of the same types.
each_type : (ns : List (Named Schema)) → map type_of (contents ns) ≡ map (λ n. type_of n.content) ns
each_type [] = refl
each_type (n ∷ ns) = ap (λ ts. type_of n.content ∷ ts) (each_type ns)

pub same_types : (ms ns : List (Named Schema)) → map (λ n. type_of n.content) ms ≡ map (λ n. type_of n.content) ns → types_of (contents ms) ≡ types_of (contents ns)
same_types ms ns same = ap row_of (each_type ms ∙ same ∙ sym (each_type ns))
