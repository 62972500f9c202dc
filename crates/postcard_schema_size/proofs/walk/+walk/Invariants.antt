-- The sizes so far, and those of the parts that are left, make those of all.
use Rattle.std.proofs.Common.{drop}
use Rattle.postcard_schema.specs.Meaning.{types_of}
use Rattle.postcard_schema_size.proofs.Rows.{Best, Total, content_types}
use Rattle.postcard_schema_size.proofs.walk.+walk.Given as goal

abbrev pub invariant-tuple_sizes-loop-part : goal.invariant-tuple_sizes-loop-part
invariant-tuple_sizes-loop-part l = Total l.total (types_of (drop l.part-index l.part-items)) (types_of l.part-items)

abbrev pub invariant-struct_sizes-loop-field : goal.invariant-struct_sizes-loop-field
invariant-struct_sizes-loop-field l = Total l.total (content_types (drop l.field-index l.field-items)) (content_types l.field-items)

abbrev pub invariant-enum_sizes-loop-index : goal.invariant-enum_sizes-loop-index
invariant-enum_sizes-loop-index l = Best l.sizes l.index l.variant-items
