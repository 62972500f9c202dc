-- The row has the parts of the elements before the loop's place.
use Rattle.std.proofs.Common.{replicate}
use Rattle.postcard_schema.specs.Meaning.{group, row_of}
use Rattle.postcard_compat.specs.Parts.{part_types}
use Rattle.postcard_compat.specs.Serving.{SameRows}
use Rattle.postcard_compat.proofs.flat.written_out.Given as goal

abbrev pub invariant-loop-index : goal.invariant-loop-index
invariant-loop-index l = SameRows (part_types l.row.items) (replicate l.index-counter (group (row_of (part_types l.element.items))))
