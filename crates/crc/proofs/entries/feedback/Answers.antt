-- The generator, moved up and in order.
use Rattle.std.proofs.Common.{◌*◌, ◌-◌, ◌^◌, ◌<◌, ap, subst, sym}
use Rattle.crc.specs.Algorithm.{parameters}
use Rattle.crc.proofs.CrcLemmas.{feedback_made, feedback_below}
use Rattle.crc.proofs.entries.feedback.Goals as goal

pub returns-clause-is : goal.returns-clause-is
returns-clause-is g c =
    feedback_made (8 * g.W.Width.size) (parameters g.W.Width.number c.args.algorithm.now) c.requires c.bits-bits.result (c.bits-bits.result - c.from.result) c.to_u128.result c.raised-lifted.result c.in_order.result
    c.bits-bits.ensures.bits (ap (λ y. c.bits-bits.result - y) c.from.ensures) c.to_u128.ensures.number c.raised-lifted.ensures c.in_order.ensures

pub returns-clause-fits : goal.returns-clause-fits
returns-clause-fits g c =
    subst (λ y. y < 2 ^ (8 * g.W.Width.size)) (sym (returns-clause-is g c)) (feedback_below (8 * g.W.Width.size) (parameters g.W.Width.number c.args.algorithm.now) c.requires)
