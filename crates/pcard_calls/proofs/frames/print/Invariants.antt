-- The lines of the answers so far are printed.
use Rattle.std.proofs.Common.{take}
use Rattle.std.specs.Io.KnownBytes.{Appends}
use Rattle.pcard_calls.specs.Frames.{answer_lines}
use Rattle.pcard_calls.proofs.frames.print.Given as goal

abbrev pub invariant-loop-answer : goal.invariant-loop-answer
invariant-loop-answer g l = Appends (g.W.Write.contents l.initial.output) (g.W.Write.contents l.output) (answer_lines (take l.answer-index l.answer-items))
