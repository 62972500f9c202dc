-- The lines of the values so far are printed.
use Rattle.std.proofs.Common.{length}
use Rattle.pcard_message.proofs.DecodeLemmas.{Printed}
use Rattle.pcard_message.proofs.decoding.decode_all.Given as goal

abbrev pub invariant-values : goal.invariant-values
invariant-values g l = Printed l.format l.bytes l.rest (g.W.Write.contents l.fn.output) (g.W.Write.contents l.output)

abbrev pub decreases-values : goal.decreases-values
decreases-values g l = length l.rest
