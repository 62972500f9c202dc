-- A tuple and a struct are the groups of their parts.
use Rattle.std.proofs.Common.{ap, ◌∙◌}
use Rattle.postcard_schema.specs.Lemmas.{type_of_struct, type_of_tuple}
use Rattle.postcard_schema.specs.Meaning.{contents, group, type_of, types_of}
use Rattle.postcard_compat.proofs.Alike.{same_by}
use Rattle.postcard_compat.proofs.Splices.{part_same}
use Rattle.postcard_compat.proofs.row.Row.of.Goals as goal

pub returns-in-Tuple : goal.returns-in-Tuple
returns-in-Tuple c =
    let parts = c.in-Tuple.parts in
    same_by (type_of c.args.schema.now) (group (types_of parts.items)) (ap type_of c.in-Tuple.is ∙ type_of_tuple parts)

pub returns-in-Struct : goal.returns-in-Struct
returns-in-Struct c =
    let fields = c.in-Struct.fields in
    same_by (type_of c.args.schema.now) (group (types_of (contents fields.items))) (ap type_of c.in-Struct.is ∙ type_of_struct fields)

pub returns-in_default : goal.returns-in_default
returns-in_default c = part_same (type_of c.args.schema.now)
