-- The bytes so far are those of the lines before the remaining text. Each turn takes a line.
use Rattle.std.proofs.Common.{◌==◌, length}
use Rattle.pcard_bytes.specs.Hexadecimal.{IsLine, IsWrongLine, is_dump}
use Rattle.pcard_bytes.proofs.PastedLemmas.{IsReadUpTo}
use Rattle.pcard_bytes.proofs.pasted.read.Given as goal

abbrev pub invariant-lines : goal.invariant-lines
invariant-lines l = IsReadUpTo (IsLine (is_dump l.text)) (IsWrongLine (is_dump l.text)) (λ b. b == 10) l.text l.bytes.items l.rest

abbrev pub decreases-lines : goal.decreases-lines
decreases-lines l = length l.rest
