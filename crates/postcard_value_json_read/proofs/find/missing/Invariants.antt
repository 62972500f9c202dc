-- Each of the fields before the loop's place has a member.
use Rattle.std.proofs.Common.{take}
use Rattle.serde_json.specs.View.{view}
use Rattle.postcard_value_json_read.specs.Places.{HasFields}
use Rattle.postcard_value_json_read.proofs.find.missing.Given as goal

abbrev pub invariant-loop-field : goal.invariant-loop-field
invariant-loop-field l = HasFields (take l.field-index l.field-items) (view l.json)
