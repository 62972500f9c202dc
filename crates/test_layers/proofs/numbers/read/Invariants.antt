-- The accumulator holds the digits of the bytes read so far.
use Rattle.std.proofs.Common.{take}
use Rattle.postcard_wire.specs.Digits.{HasRead}
use Rattle.test_layers.proofs.numbers.read.Given as goal

abbrev pub invariant-loop-i : goal.invariant-loop-i
invariant-loop-i l = HasRead l.bits (take l.i l.bytes) l.digits
