-- The bytes so far have no zero.
use Rattle.std.proofs.Common.{◌-◌, ◌≤◌, length, take}
use Rattle.postcard_cobs.specs.Groups.{NoZero}
use Rattle.postcard_cobs.proofs.decode.short_run.Given as goal

abbrev pub invariant-loop-n : goal.invariant-loop-n
invariant-loop-n l = record {
  within : l.n ≤ length l.buf;
  none : NoZero (take l.n l.buf);
}

abbrev pub decreases-loop-n : goal.decreases-loop-n
decreases-loop-n l = length l.buf - l.n
