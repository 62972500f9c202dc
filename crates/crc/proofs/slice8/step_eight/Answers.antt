-- The bytes are added to the bits that leave the register, and their entries to those that stay.
use Rattle.std.proofs.Common.{◌*◌, ◌^◌, ◌<◌, subst, sym, refl, ◌∙◌, ap, bit_xor}
use Rattle.crc.specs.Algorithm.{parameters}
use Rattle.crc.specs.Register.{leaving, staying}
use Rattle.crc.proofs.EightLemmas.{holds_eight, staying_sum_below}
use Rattle.crc.proofs.slice8.step_eight.Goals as goal

pub from_u128-requires : goal.from_u128-requires
from_u128-requires g c =
    staying_sum_below (8 * g.W.Width.size) c.bits-bits.result c.pick-sum.result c.staying.result c.bits-bits.ensures.bits c.staying.ensures.fits c.pick-sum.ensures.fits

pub returns : goal.returns
returns g c =
    let n = 8 * g.W.Width.size in
    let p = parameters g.W.Width.number c.args.algorithm.now in
    let r = c.to_u128-register.result in
    let e = c.to_u128-register.ensures.number in
    let x = bit_xor c.leaving.result c.word.result in
    let b = c.bits-bits.result in
    let below = subst (λ y. y < 2 ^ n) e c.to_u128-register.ensures.fits in
    let v_below = subst (λ y. y < 2 ^ n) (sym c.from_u128.ensures) (staying_sum_below n b c.pick-sum.result c.staying.result c.bits-bits.ensures.bits c.staying.ensures.fits c.pick-sum.ensures.fits) in
    holds_eight n p c.requires.valid (g.W.Width.number c.args.register) b c.leaving.result c.word.result x c.pick-sum.result c.staying.result (g.W.Width.number c.from_u128.result) c.args.eight.now c.spelled.result
    below c.bits-bits.ensures.bits c.requires.eight (λ i. (c.type_inv.eight i).fits) (c.leaving.ensures ∙ ap (λ y. leaving p.refin b 64 y) e) c.word.ensures refl c.spelled.ensures
    (c.pick-sum.ensures.is p c.requires.valid c.requires.served) (c.staying.ensures.is ∙ ap (λ y. staying p.refin b 64 y) e) c.from_u128.ensures v_below
