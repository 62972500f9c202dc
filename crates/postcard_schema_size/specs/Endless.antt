-- Which parts of a type have no greatest size: its strings, byte strings, lists and maps, each by its path.
use Rattle.std.specs.Prelude.{ℕ, ◌+◌, nat_lt, Bool, true, false, if◌then◌else◌, List, [], ◌∷◌, ◌++◌, map, string_bytes, box_value}
use Rattle.std.specs.List.{flat_map}
use Rattle.postcard_schema.specs.Paths.{PlainStep, at_name, at_part, at_each}
use Rattle.postcard_schema.specs.declared.leaf.Leaf.{Leaf}
use Rattle.postcard_schema.specs.declared.leaf.Leaf.TheVariants.{Str, Bytes}
use Rattle.postcard_schema.specs.declared.schema.Named.{Named}
use Rattle.postcard_schema.specs.declared.schema.Schema.{Schema, fold-Schema}
use Rattle.postcard_schema.specs.declared.schema.Schema.TheOpen.{Schema-F}

-- The paths of some parts.
abbrev pub Paths : Type 0
Paths = List (List PlainStep)

-- The paths, each after these steps.
abbrev pub after : List PlainStep → Paths → Paths
after steps paths = map (λ path. steps ++ path) paths

-- The paths in each entry of a map, from those in its key and in its value.
abbrev pub in_entries : Paths → Paths → Paths
in_entries keys values = after (at_each ∷ []) (after (at_part 0 ∷ []) keys ++ after (at_part 1 ∷ []) values)

-- The paths in the parts of a tuple, the first of which has the number i.
abbrev pub in_parts : ℕ → List Paths → Paths
in_parts i [] = []
in_parts i (paths ∷ others) = after (at_part i ∷ []) paths ++ in_parts (i + 1) others

-- The paths in the fields of a struct, or in the contents of variants.
abbrev pub in_named : {A : Type 0} → (A → Paths) → List (Named A) → Paths
in_named paths named = flat_map (λ n. after (at_name (string_bytes n.name) ∷ []) (paths n.content)) named

-- Whether a type without parts has no greatest size: a string or a byte string.
abbrev pub is_endless_leaf : Leaf → Bool
is_endless_leaf Str = true
is_endless_leaf Bytes = true
is_endless_leaf l = false

-- One step of the fold `endless`. An array without elements has no parts.
abbrev pub endless_step : Schema-F Paths → Paths
endless_step (Schema-F.Leaf l) = if is_endless_leaf l then [] ∷ [] else []
endless_step (Schema-F.Option paths) = box_value paths
endless_step (Schema-F.Seq paths) = [] ∷ after (at_each ∷ []) (box_value paths)
endless_step (Schema-F.Map keys values) = [] ∷ in_entries (box_value keys) (box_value values)
endless_step (Schema-F.Array paths n) = if nat_lt 0 n then after (at_each ∷ []) (box_value paths) else []
endless_step (Schema-F.Tuple v) = in_parts 0 v.items
endless_step (Schema-F.Struct v) = in_named (λ paths. paths) v.items
endless_step (Schema-F.Enum v) = in_named (λ paths. paths) v.items

-- The paths of the parts of a schema that have no greatest size, in order.
abbrev pub endless : Schema → Paths
endless = fold-Schema Paths endless_step
