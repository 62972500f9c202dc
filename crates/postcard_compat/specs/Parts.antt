-- The parts of tuples, structs and enums, and types of integers.
use Rattle.std.specs.Prelude.{List, [], ◌∷◌, map}
use Rattle.postcard_schema.specs.declared.leaf.Integer.{Integer}
use Rattle.postcard_schema.specs.declared.leaf.Leaf.TheVariants as leaves
use Rattle.postcard_schema.specs.declared.schema.Named as schemas
use Rattle.postcard_schema.specs.declared.schema.Schema.{Schema}
use Rattle.postcard_schema.specs.Meaning.{MessageType, contents, leaf, type_of}
use Rattle.postcard_compat.specs.declared.row.Row.{Row}
use Rattle.postcard_compat.specs.declared.row.Row.TheVariants.{One, Plain, Named}

-- The types of the parts, in order.
abbrev pub parts_of : Row → List Schema
parts_of (One schema) = schema.now ∷ []
parts_of (Plain parts) = parts.now.items
parts_of (Named parts) = contents parts.now.items

-- The type of the messages of a type of integers.
abbrev pub integer_leaf : Integer → MessageType
integer_leaf integer = leaf (leaves.Integer integer)

-- The types of what has names, in order.
abbrev pub part_types : List (schemas.Named Schema) → List MessageType
part_types ns = map (λ n. type_of n.content) ns
