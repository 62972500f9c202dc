-- The text up to the mark is the bytes before index `end`, and then the text from there on up to the mark.
use Rattle.std.proofs.Common.{◌≡◌, ◌++◌, take, drop}
use Rattle.pcard_bytes.specs.Hexadecimal.{up_to}
use Rattle.pcard_bytes.proofs.pasted.up_to.Given as goal

abbrev pub invariant-loop-end : goal.invariant-loop-end
invariant-loop-end l = up_to l.mark l.text ≡ take l.end l.text ++ up_to l.mark (drop l.end l.text)
