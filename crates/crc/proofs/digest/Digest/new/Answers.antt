-- The register of no bytes.
use Rattle.std.proofs.Common.{◌-◌, ◌*◌, ◌^◌, ap, ◌∙◌}
use Rattle.crc.specs.Algorithm.{parameters}
use Rattle.crc.proofs.DigestLemmas.{started, started_below}
use Rattle.crc.proofs.digest.Digest.new.Goals as goal

pub from_u128-register-requires : goal.from_u128-register-requires
from_u128-register-requires g c =
    started_below (8 * g.W.Width.size) c.bits-bits.result c.raised-lifted.result (c.to_u128.result * 2 ^ (c.bits-bits.result - c.from.result)) c.in_order.result c.crc.inside.algorithm.refin
    c.bits-bits.ensures.bits c.raised-lifted.ensures c.in_order.ensures

pub returns : goal.returns
returns g c =
    started (8 * g.W.Width.size) (parameters g.W.Width.number c.crc.inside.algorithm) c.args.crc.now c.crc.view_is c.crc.invariant.0 (g.W.Width.number c.args.initial) c.requires
    c.bits-bits.result (c.bits-bits.result - c.from.result) c.to_u128.result c.raised-lifted.result (g.W.Width.number c.from_u128-register.result)
    c.bits-bits.ensures.bits (ap (λ y. c.bits-bits.result - y) c.from.ensures) c.to_u128.ensures.number c.raised-lifted.ensures (c.from_u128-register.ensures ∙ c.in_order.ensures)
