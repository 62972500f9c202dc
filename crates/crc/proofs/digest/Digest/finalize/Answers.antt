-- What is read from the register.
use Rattle.std.proofs.Common.{◌-◌, ◌*◌, ap}
use Rattle.crc.specs.Algorithm.{parameters}
use Rattle.crc.proofs.DigestLemmas.{finished, crc_below}
use Rattle.crc.proofs.digest.Digest.finalize.Goals as goal

pub from_u128-requires : goal.from_u128-requires
from_u128-requires g c =
    let algorithm = c.crc.inside.algorithm in
    crc_below (8 * g.W.Width.size) c.bits-bits.result (c.bits-bits.result - c.from.result) c.to_u128-register.result c.read-remainder.result c.to_u128.result algorithm.refin algorithm.refout
    c.bits-bits.ensures.bits c.to_u128-register.ensures.fits c.to_u128.ensures.fits c.read-remainder.ensures

pub returns : goal.returns
returns g c a m t =
    finished (8 * g.W.Width.size) (parameters g.W.Width.number c.crc.inside.algorithm) c.self.inside.crc.now c.crc.view_is (g.W.Width.number c.self.inside.register) c.args.self c.self.view_is
    a m t c.bits-bits.result (c.bits-bits.result - c.from.result) c.to_u128-register.result c.read-remainder.result c.to_u128.result (g.W.Width.number c.from_u128.result)
    c.bits-bits.ensures.bits (ap (λ y. c.bits-bits.result - y) c.from.ensures) c.to_u128-register.ensures.number c.read-remainder.ensures c.to_u128.ensures.number c.from_u128.ensures
