-- The groups before the place `read` are decoded, and the rest of the frame shrinks.
use Rattle.std.proofs.Common.{◌-◌}
use Rattle.postcard_cobs.proofs.Behind.{Behind}
use Rattle.postcard_cobs.proofs.decode.decode_behind_code.Given as goal

abbrev pub invariant-loop-next : goal.invariant-loop-next
invariant-loop-next l = Behind l.fn.frame l.frame l.read l.written l.code

abbrev pub decreases-loop-next : goal.decreases-loop-next
decreases-loop-next l = l.end - l.read
