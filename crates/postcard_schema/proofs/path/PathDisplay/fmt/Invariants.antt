-- The text of the steps before the loop's place is printed.
use Rattle.std.proofs.Common.{Ok, take}
use Rattle.postcard_schema.specs.{WritesOnOk, path_text}
use Rattle.postcard_schema.proofs.path.PathDisplay.fmt.Given as goal

abbrev pub invariant-loop-i : goal.invariant-loop-i
invariant-loop-i g l = WritesOnOk g.W.Write.write_str_gives l.fn.f (Ok tt) (path_text (take l.i l.step-items)) l.f
