-- None of the fields or variants before the loop's place has the name.
use Rattle.std.proofs.Common.{take}
use Rattle.postcard_schema_text.specs.Names.{IsNewTo}
use Rattle.postcard_schema_text.proofs.types.check_new.Given as goal

abbrev pub invariant-loop-other : goal.invariant-loop-other
invariant-loop-other l = IsNewTo (take l.other-index l.other-items) l.name
