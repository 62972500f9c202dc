-- None of the fields before the loop's place has the name.
use Rattle.std.proofs.Common.{take}
use Rattle.postcard_schema_text.specs.Names.{IsNewTo}
use Rattle.postcard_value_json_read.proofs.find.has_field.Given as goal

abbrev pub invariant-loop-field : goal.invariant-loop-field
invariant-loop-field l = IsNewTo (take l.field-index l.field-items) l.name
