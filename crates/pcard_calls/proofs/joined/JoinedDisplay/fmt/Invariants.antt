-- The elements so far are printed.
use Rattle.std.proofs.Common.{codes, map, take, Ok}
use Rattle.std.specs.Fmt.{DisplaysOnOk}
use Rattle.postcard_value_text.specs.Shown.{joined}
use Rattle.pcard_calls.proofs.joined.JoinedDisplay.fmt.Given as goal

abbrev pub invariant-loop-i : goal.invariant-loop-i
invariant-loop-i g l = DisplaysOnOk g.W.Write.write_str_gives l.fn.f (Ok tt) (joined (codes ",") (map g.T.Display.output (take l.i l.item-items))) l.f
