-- The byte is added to the bits that leave the register, and their entry to those that stay.
use Rattle.std.proofs.Common.{◌≡◌, ◌*◌, ◌-◌, ◌/◌, ◌%◌, ◌^◌, ◌<◌, ◌≤◌, ap, subst, subst₂, sym, refl, ◌∙◌, bit_xor, bit_and, arith}
use Rattle.std.specs.Int.Bits.{mask_lt}
use lib.Bits.{xor_lt}
use Rattle.crc.specs.Algorithm.{parameters}
use Rattle.crc.specs.Crc.{in_order}
use Rattle.crc.specs.Register.{Takes}
use Rattle.crc.proofs.CrcLemmas.{byte_reflected, byte_plain, sum_below, quotient_below}
use Rattle.crc.proofs.table.step.Goals as goal

pub look_up-entry-requires : goal.look_up-entry-requires
look_up-entry-requires g c =
    let r = c.to_u128-register.result in
    let byte : bit_xor (bit_and r 255) c.args.byte < 256 = xor_lt 8 (bit_and r 255) c.args.byte (mask_lt r 8) c.ranges.byte.fits in
    omega (arith, byte, c.requires.enough)

pub look_up-entry-requires-else-algorithm : goal.look_up-entry-requires-else-algorithm
look_up-entry-requires-else-algorithm g c =
    let byte : bit_xor c.top_byte.result c.args.byte < 256 = xor_lt 8 c.top_byte.result c.args.byte c.top_byte.type_inv c.ranges.byte.fits in
    omega (arith, byte, c.requires.enough)

pub top_byte-requires-clause-fits : goal.top_byte-requires-clause-fits
top_byte-requires-clause-fits g c =
    subst (λ k. c.to_u128-register.result < 2 ^ k) (sym c.bits-bits.ensures.bits) c.to_u128-register.ensures.fits

pub from_u128-requires : goal.from_u128-requires
from_u128-requires g c =
    xor_lt (8 * g.W.Width.size) (c.to_u128-register.result / 256) c.look_up-entry.result
    (quotient_below (8 * g.W.Width.size) 256 c.to_u128-register.result c.to_u128-register.ensures.fits) c.look_up-entry.ensures.fits

pub from_u128-requires-else-algorithm : goal.from_u128-requires-else-algorithm
from_u128-requires-else-algorithm g c =
    sum_below (8 * g.W.Width.size) c.bits-bits.result (c.to_u128-register.result * 2 ^ 8) c.raised.result c.look_up-entry-else-algorithm.result
    c.bits-bits.ensures.bits c.raised.ensures c.look_up-entry-else-algorithm.ensures.fits

pub returns-then-algorithm-clause-takes : goal.returns-then-algorithm-clause-takes
returns-then-algorithm-clause-takes g c =
    let n = 8 * g.W.Width.size in
    let a = parameters g.W.Width.number c.args.algorithm.now in
    let r = c.to_u128-register.result in
    let b = c.args.byte in
    let x = bit_xor (bit_and r 255) b in
    let wide : 8 ≤ n = subst (λ k. 8 ≤ k) c.bits-bits.ensures.bits c.bits-bits.ensures.some in
    let byte : x < 256 = xor_lt 8 (bit_and r 255) b (mask_lt r 8) c.ranges.byte.fits in
    subst₂ (λ y z. Takes n a 8 y (in_order a.refin 8 b) z) c.to_u128-register.ensures.number (sym c.from_u128.ensures)
    (byte_reflected n a wide c.requires.valid r b x c.look_up-entry.result c.if-algorithm.true c.to_u128-register.ensures.fits byte refl (c.look_up-entry.ensures.number ∙ c.requires.served x byte))

pub returns-then-algorithm-clause-fits : goal.returns-then-algorithm-clause-fits
returns-then-algorithm-clause-fits g c =
    subst (λ y. y < 2 ^ (8 * g.W.Width.size)) (sym c.from_u128.ensures)
    (xor_lt (8 * g.W.Width.size) (c.to_u128-register.result / 256) c.look_up-entry.result
    (quotient_below (8 * g.W.Width.size) 256 c.to_u128-register.result c.to_u128-register.ensures.fits) c.look_up-entry.ensures.fits)

pub returns-else-algorithm-clause-takes : goal.returns-else-algorithm-clause-takes
returns-else-algorithm-clause-takes g c =
    let n = 8 * g.W.Width.size in
    let a = parameters g.W.Width.number c.args.algorithm.now in
    let r = c.to_u128-register.result in
    let b = c.args.byte in
    let top = c.top_byte.result in
    let x = bit_xor top b in
    let e = c.bits-bits.ensures.bits in
    let wide : 8 ≤ n = subst (λ k. 8 ≤ k) e c.bits-bits.ensures.some in
    let byte : x < 256 = xor_lt 8 top b c.top_byte.type_inv c.ranges.byte.fits in
    let top_is : top ≡ r / 2 ^ (n - 8) = c.top_byte.ensures ∙ ap (λ k. r / 2 ^ (k - 8)) e in
    let kept : c.raised.result ≡ r * 2 ^ 8 % 2 ^ n = c.raised.ensures ∙ ap (λ k. r * 2 ^ 8 % 2 ^ k) e in
    subst₂ (λ y z. Takes n a 8 y (in_order a.refin 8 b) z) c.to_u128-register.ensures.number
    (sym (c.from_u128-else-algorithm.ensures ∙ ap (λ y. bit_xor y c.look_up-entry-else-algorithm.result) kept))
    (byte_plain n a wide c.requires.valid r b x c.look_up-entry-else-algorithm.result c.if-algorithm.false byte (ap (λ y. bit_xor y b) top_is)
    (c.look_up-entry-else-algorithm.ensures.number ∙ c.requires.served x byte))

pub returns-else-algorithm-clause-fits : goal.returns-else-algorithm-clause-fits
returns-else-algorithm-clause-fits g c =
    subst (λ y. y < 2 ^ (8 * g.W.Width.size)) (sym c.from_u128-else-algorithm.ensures)
    (sum_below (8 * g.W.Width.size) c.bits-bits.result (c.to_u128-register.result * 2 ^ 8) c.raised.result c.look_up-entry-else-algorithm.result
    c.bits-bits.ensures.bits c.raised.ensures c.look_up-entry-else-algorithm.ensures.fits)
