-- The row so far has the messages of the parts so far, and each variant so far those of the original variant.
use Rattle.std.proofs.Common.{map, take}
use Rattle.std.specs.List.{AllZip}
use Rattle.postcard_schema.specs.Meaning.{type_of}
use Rattle.postcard_compat.specs.Parts.{part_types}
use Rattle.postcard_compat.specs.Serving.{SameMessages, SameRows}
use Rattle.postcard_compat.proofs.flat.+flattened.Given as goal

abbrev pub invariant-tuple_row-loop-number : goal.invariant-tuple_row-loop-number
invariant-tuple_row-loop-number l = SameRows (part_types l.row.items) (map type_of (take l.number-counter l.part-items))

abbrev pub invariant-struct_row-loop-field : goal.invariant-struct_row-loop-field
invariant-struct_row-loop-field l = SameRows (part_types l.row.items) (part_types (take l.field-index l.field-items))

abbrev pub invariant-flat_variants-loop-variant : goal.invariant-flat_variants-loop-variant
invariant-flat_variants-loop-variant l = AllZip SameMessages (part_types l.flat.items) (part_types (take l.variant-index l.variant-items))
