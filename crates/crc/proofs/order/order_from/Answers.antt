-- One power more.
use Rattle.std.proofs.Common.{◌≡◌, ◌*◌, ◌+◌, ◌-◌, ◌≤◌, false, ap, sym, ◌∙◌, arith}
use Rattle.crc.specs.Algorithm.{parameters}
use Rattle.crc.specs.Register.{next}
use Rattle.crc.proofs.OrderLemmas.{power, power_none, power_more, order_none, order_more, order_fewer, is_one}
use Rattle.crc.proofs.order.order_from.Given as given
use Rattle.crc.proofs.order.order_from.Goals as goal
use Rattle.crc.proofs.order.order_from.Goals.{After-next-power}

stepped : (g : given.Over) (c : After-next-power g) → c.next-power.result ≡ power (parameters g.W.Width.number c.args.algorithm.now) c.loop-d.d
stepped g c =
    let a = parameters g.W.Width.number c.args.algorithm.now in
    let from_one = c.loop-d.auto.d in
    let place : c.loop-d.d - 1 + 1 ≡ c.loop-d.d = omega arith in
    c.next-power.ensures ∙ ap (λ w. next false w c.to_u128-poly.result c.loop-d.power) c.from-width.ensures ∙ ap (λ p. next false a.width p c.loop-d.power) c.to_u128-poly.ensures.number
    ∙ ap (λ r. next false a.width a.poly r) c.loop-d.invariant.is ∙ power_more a (c.loop-d.d - 1) ∙ ap (power a) place

pub loop-d-init : goal.loop-d-init
loop-d-init g c = let a = parameters g.W.Width.number c.args.algorithm.now in record {
  is = power_none a;
  none = order_none (8 * g.W.Width.size) a c.requires;
}

pub loop-d-preserved : goal.loop-d-preserved
loop-d-preserved g c =
    let a = parameters g.W.Width.number c.args.algorithm.now in
    let d = c.loop-d.d in
    let e = stepped g (goal.at.loop-d-preserved g c).After-next-power in
    let place : d ≡ d + 1 - 1 = omega arith in
    record {
      is = e ∙ ap (power a) place;
      none = order_more (8 * g.W.Width.size) a c.requires d c.loop-d.invariant.none (λ one. c.if-power-eq1.false (e ∙ one));
    }

pub returns-then-power-eq1-clause-is_order : goal.returns-then-power-eq1-clause-is_order
returns-then-power-eq1-clause-is_order g c less =
    let a = parameters g.W.Width.number c.args.algorithm.now in
    is_one (8 * g.W.Width.size) a c.requires c.loop-d.d (sym (stepped g (goal.at.returns-then-power-eq1-clause-is_order g c).After-next-power) ∙ c.if-power-eq1.true)

pub returns-clause-none_below : goal.returns-clause-none_below
returns-clause-none_below g c =
    let le : c.args.limit ≤ c.loop-d.d = c.loop-d-test.false in
    order_fewer (8 * g.W.Width.size) (parameters g.W.Width.number c.args.algorithm.now) c.requires c.loop-d.d c.args.limit le c.loop-d.invariant.none
