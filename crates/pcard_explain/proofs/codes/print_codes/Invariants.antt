-- For each final output: if the rows of the remaining bytes lead from the output so far to it, all rows lead from the first output to it.
use Rattle.std.proofs.Common.{ℕ, List, Option, drop}
use Rattle.pcard_explain.specs.Notes.{PrintsNotes, frame_notes}
use Rattle.pcard_explain.proofs.codes.print_codes.Given as goal

abbrev pub invariant-loop-at : goal.invariant-loop-at
invariant-loop-at g l = (end : Option (List ℕ)) → PrintsNotes l.layout (frame_notes l.at l.left (drop l.at l.frame)) (g.W.Write.contents l.output) end
    → PrintsNotes l.layout (frame_notes 0 0 l.frame) (g.W.Write.contents l.initial.output) end
