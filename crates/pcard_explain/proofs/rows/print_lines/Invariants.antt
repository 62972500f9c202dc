-- The rows so far are printed, the bytes of their lines are counted, and the place is after these lines.
use Rattle.std.proofs.Common.{◌≡◌, [], length, take}
use Rattle.postcard_explain.specs.Explained.{bytes_of}
use Rattle.pcard_print.specs.Lines.{offset}
use Rattle.pcard_explain.specs.Places.{Follows}
use Rattle.pcard_explain.specs.Rows.{PrintsLines}
use Rattle.pcard_explain.proofs.RowLemmas.{seen_after}
use Rattle.pcard_explain.proofs.rows.print_lines.Given as goal

abbrev pub invariant-loop-line : goal.invariant-loop-line
invariant-loop-line g l = let before = take l.line-index l.lines in record {
  rows : PrintsLines l.layout 0 [] before (g.W.Write.contents l.initial.output) (g.W.Write.contents l.output);
  count : l.at ≡ offset (length (bytes_of before));
  place : Follows l.place (seen_after [] before);
}
