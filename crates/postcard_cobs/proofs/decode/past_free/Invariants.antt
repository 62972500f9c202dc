-- The bytes of the blocks so far have no zero.
use Rattle.std.proofs.Common.{◌-◌, ◌≤◌, length, take}
use Rattle.postcard_cobs.specs.Groups.{NoZero}
use Rattle.postcard_cobs.proofs.decode.past_free.Given as goal

abbrev pub invariant-loop-n : goal.invariant-loop-n
invariant-loop-n g l = record {
  within : l.n ≤ length l.buf;
  none : NoZero (take l.n l.buf);
}

abbrev pub decreases-loop-n : goal.decreases-loop-n
decreases-loop-n g l = l.last - l.n
