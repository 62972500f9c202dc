-- The lines so far are those of the differences so far.
use Rattle.std.proofs.Common.{take, string_bytes}
use Rattle.pcard_compat.specs.Texts.{AreEach, IsLine}
use Rattle.pcard_compat.proofs.text.lines_of.Given as goal

abbrev pub invariant-loop-difference : goal.invariant-loop-difference
invariant-loop-difference l = AreEach IsLine (take l.difference-index l.differences) (string_bytes l.text)
