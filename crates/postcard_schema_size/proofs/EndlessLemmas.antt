-- `endless` lists the paths of the parts without a greatest size. By the kind of the type, it is the type's own path and those in its parts,
-- part by part, as `endless_parts` adds them.
use Rattle.std.proofs.Common.{◌≡◌, ℕ, ◌<◌, List, [], ◌∷◌, ◌++◌, map, Vec, Box, refl, ap, rules, append_assoc, append-nil}
use Rattle.std.specs.Prelude.{nat_lt, Bool, true, false, if◌then◌else◌, string_bytes}
use Rattle.std.specs.declared.alloc.Global.{Global}
use Rattle.std.proofs.lemmas.Bool.{lt-ltb}
use Rattle.std.proofs.lemmas.List.{map-append}
use Rattle.std.proofs.lemmas.List.Folds.{flat_map-map}
use Rattle.std.proofs.lemmas.Simd.{map-map}
use Rattle.postcard_schema.specs.Paths.{PlainStep, at_name, at_part, at_each}
use Rattle.postcard_schema.specs.declared.leaf.Leaf.{Leaf}
use Rattle.postcard_schema.specs.declared.schema.Named.{Named}
use Rattle.postcard_schema.specs.declared.schema.Schema.{Schema, the_lemmas}
use Rattle.postcard_schema.specs.declared.schema.Schema.TheShapes.{former-Schema-Struct-0-at-2}
use Rattle.postcard_schema.specs.declared.schema.Schema.TheVariants as schemas
use Rattle.postcard_schema_size.specs.Endless.{Paths, after, endless, in_entries, in_named, in_parts, is_endless_leaf}

-- ---- what `endless` is of each kind of type

pub endless_leaf : (l : Leaf) → endless (schemas.Leaf l) ≡ (if is_endless_leaf l then [] ∷ [] else [])
endless_leaf l = search (rules, the_lemmas)

pub endless_option : (b : Box Schema Global) → endless (schemas.Option b) ≡ endless b.value
endless_option b = search (rules, the_lemmas)

pub endless_seq : (b : Box Schema Global) → endless (schemas.Seq b) ≡ [] ∷ after (at_each ∷ []) (endless b.value)
endless_seq b = search (rules, the_lemmas)

pub endless_map : (k v : Box Schema Global) → endless (schemas.Map k v) ≡ [] ∷ in_entries (endless k.value) (endless v.value)
endless_map k v = search (rules, the_lemmas)

pub endless_array : (b : Box Schema Global) (n : ℕ) → endless (schemas.Array b n) ≡ (if nat_lt 0 n then after (at_each ∷ []) (endless b.value) else [])
endless_array b n = search (rules, the_lemmas)

pub endless_tuple : (v : Vec Schema Global) → endless (schemas.Tuple v) ≡ in_parts 0 (map endless v.items)
endless_tuple v = search (rules, the_lemmas)

named_paths : (ns : List (Named Schema)) → in_named (λ paths. paths) (map (former-Schema-Struct-0-at-2.map Schema Paths endless) ns) ≡ in_named endless ns
named_paths ns =
    flat_map-map (λ (n : Named Paths). after (at_name (string_bytes n.name) ∷ []) n.content) (former-Schema-Struct-0-at-2.map Schema Paths endless) ns

pub endless_struct : (v : Vec (Named Schema) Global) → endless (schemas.Struct v) ≡ in_named endless v.items
endless_struct v = search (rules, the_lemmas, named_paths)

pub endless_enum : (v : Vec (Named Schema) Global) → endless (schemas.Enum v) ≡ in_named endless v.items
endless_enum v = search (rules, the_lemmas, named_paths)

-- ---- Steps

-- Putting a step and then the steps `here` before each path puts `here` and the step before it.
pub after_step : (here : List PlainStep) (s : PlainStep) (paths : Paths) → after here (after (s ∷ []) paths) ≡ after (here ++ s ∷ []) paths
after_step here s paths = simp (append_assoc, map-map)

-- The paths of a part and those of the parts after it, each after the steps to the whole.
pub after_first : (here : List PlainStep) (s : PlainStep) (paths others : Paths)
    → after here (after (s ∷ []) paths ++ others) ≡ after (here ++ s ∷ []) paths ++ after here others
after_first here s paths others = simp (append_assoc, map-append, map-map)

-- The path of a type itself, and those in its parts.
pub after_whole : (here : List PlainStep) (is : Bool) → after here (if is then [] ∷ [] else []) ≡ (if is then here ∷ [] else [])
after_whole here true = ap (λ path. path ∷ []) (append-nil here)
after_whole here false = refl

-- The path of the type itself comes before those in its parts.
pub after_here : (here : List PlainStep) (old now paths : Paths) → now ≡ old ++ here ∷ []
    → old ++ after here ([] ∷ paths) ≡ now ++ after here paths
after_here here old now paths added = rw added (simp (append_assoc, append-nil))

-- The paths in the entries of a map.
pub after_entries : (here : List PlainStep) (keys values old now both all : Paths) → now ≡ old ++ here ∷ []
    → both ≡ now ++ after ((here ++ at_each ∷ []) ++ at_part 0 ∷ []) keys
    → all ≡ both ++ after ((here ++ at_each ∷ []) ++ at_part 1 ∷ []) values → all ≡ old ++ after here ([] ∷ in_entries keys values)
after_entries here keys values old now both all first second third = rw (third, second, first) (simp (append_assoc, append-nil, map-append, map-map))

-- If an array has elements, the paths in them are its paths.
pub some_elements : (n : ℕ) (paths : Paths) → 0 < n → (if nat_lt 0 n then paths else []) ≡ paths
some_elements n paths some = ap (λ b. if b then paths else []) (lt-ltb 0 n some)

-- ---- Parts in a row

-- If the steps and the paths of a part are equal to others, the paths that were added are those of the others.
pub moved : (here h : List PlainStep) (step s : PlainStep) (paths found now new : Paths) → h ≡ here → s ≡ step → found ≡ paths
    → new ≡ now ++ after (h ++ s ∷ []) found
    → new ≡ now ++ after (here ++ step ∷ []) paths
moved here h step s paths found now new back same is added = rw (← back, ← same, ← is) added

-- One turn of a loop over parts adds the paths of one part: these, and those of the remaining parts, are still all paths.
pub next : (here : List PlainStep) (step : PlainStep) (paths others left now new all : Paths) → new ≡ now ++ after (here ++ step ∷ []) paths
    → left ≡ after here (after (step ∷ []) paths ++ others)
    → now ++ left ≡ all → new ++ after here others ≡ all
next here step paths others left now new all added first whole = rw (added, append_assoc) (rw (first, after_first) at whole)
