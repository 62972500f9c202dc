-- The bytes so far are those of the digits before the remaining text. Each turn takes two digits.
use Rattle.std.proofs.Common.{length}
use Rattle.pcard_bytes.proofs.DigitLemmas.{IsBefore}
use Rattle.pcard_bytes.proofs.digits.decode.Given as goal

abbrev pub invariant-pairs : goal.invariant-pairs
invariant-pairs l = IsBefore l.text l.bytes.items l.rest

abbrev pub decreases-pairs : goal.decreases-pairs
decreases-pairs l = length l.rest
