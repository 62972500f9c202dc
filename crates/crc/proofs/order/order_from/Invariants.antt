-- No power before d is 1.
use Rattle.std.proofs.Common.{◌≡◌, ◌-◌}
use Rattle.crc.specs.Algorithm.{parameters}
use Rattle.crc.specs.Damage.{HasOrderFrom}
use Rattle.crc.proofs.OrderLemmas.{power}
use Rattle.crc.proofs.order.order_from.Given as goal

abbrev pub invariant-loop-d : goal.invariant-loop-d
invariant-loop-d g l = record {
  is : l.power ≡ power (parameters g.W.Width.number l.algorithm) (l.d - 1);
  none : HasOrderFrom l.d (parameters g.W.Width.number l.algorithm);
}
