-- The bytes of the lines so far are counted, and those of the longest of them.
use Rattle.std.proofs.Common.{◌≡◌, length, take}
use Rattle.postcard_explain.specs.Explained.{bytes_of}
use Rattle.pcard_print.specs.Lines.{offset}
use Rattle.pcard_explain.specs.Layouts.{longest_of}
use Rattle.pcard_explain.proofs.layout.layout_of.Given as goal

abbrev pub invariant-loop-line : goal.invariant-loop-line
invariant-loop-line l = let before = take l.line-index l.lines in record {
  count : l.count ≡ offset (length (bytes_of before));
  longest : l.longest ≡ longest_of before;
}
