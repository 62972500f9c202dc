-- None of the types before the loop's place has bytes in every message, so the types from it on decide.
use Rattle.std.proofs.Common.{◌≡◌, drop}
use Rattle.postcard_schema.specs.Meaning.{contents, types_of, some_has_bytes}
use Rattle.postcard_schema.proofs.schema.+has_bytes.Given as goal

abbrev pub invariant-part_has_bytes-loop-part : goal.invariant-part_has_bytes-loop-part
invariant-part_has_bytes-loop-part l = some_has_bytes (types_of (drop l.part-index l.part-items)) ≡ some_has_bytes (types_of l.part-items)

abbrev pub invariant-field_has_bytes-loop-field : goal.invariant-field_has_bytes-loop-field
invariant-field_has_bytes-loop-field l = some_has_bytes (types_of (contents (drop l.field-index l.field-items))) ≡ some_has_bytes (types_of (contents l.field-items))
