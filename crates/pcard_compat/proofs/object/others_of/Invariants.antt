-- The objects so far are those of the differences so far.
use Rattle.std.proofs.Common.{take, string_bytes}
use Rattle.pcard_compat.specs.Jsons.{IsOther}
use Rattle.pcard_compat.specs.Texts.{AreEach}
use Rattle.pcard_compat.proofs.object.others_of.Given as goal

abbrev pub invariant-loop-difference : goal.invariant-loop-difference
invariant-loop-difference l = AreEach IsOther (take l.difference-index l.differences) (string_bytes l.text)
