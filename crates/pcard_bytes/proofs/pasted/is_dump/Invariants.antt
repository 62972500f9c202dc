-- The remaining lines have a line of `hexdump -C` if and only if the text has one. Each turn drops a line.
use Rattle.std.proofs.Common.{◌≡◌, ◌≤◌, length}
use Rattle.std.specs.List.{list_any}
use Rattle.pcard_bytes.specs.Hexadecimal.{is_of_hexdump, lines_of}
use Rattle.pcard_bytes.proofs.pasted.is_dump.Given as goal

abbrev pub invariant-lines : goal.invariant-lines
invariant-lines l = record {
  same : list_any is_of_hexdump (lines_of l.text) ≡ list_any is_of_hexdump (lines_of l.rest);
  fits : length l.rest ≤ length l.text;
}

abbrev pub decreases-lines : goal.decreases-lines
decreases-lines l = length l.rest
