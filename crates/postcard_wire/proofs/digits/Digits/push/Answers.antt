-- The result of one more byte after the digits read so far, by the lemmas of `Pushed`.
use Rattle.std.proofs.Common.{ℕ, ◌∙◌, sym, subst, refl, arith, ◌∷◌, [], length-append}
use Rattle.postcard_wire.specs.Digits.{Within}
use Rattle.postcard_wire.proofs.Pushed.{last_byte, next_fewer, too_great, GoesOn-more, number_more, sum_read, sum_in_range}
use Rattle.postcard_wire.proofs.digits.Digits.push.Goals as goal

pub returns-then-not-is_within : goal.returns-then-not-is_within
returns-then-not-is_within c p s =
    (refl, too_great c.args.bits p c.args.byte s.high s.fewer (λ h. c.if-not-is_within.ensures (subst (λ (i : ℕ). Within c.args.bits i c.args.byte) (sym s.count) h)))

pub overflow_add-self : goal.overflow_add-self
overflow_add-self c =
    let k = sum_read c.args.bits c.from.result c.args.byte c.args.self.now c.requires.begun.0 c.requires.width c.requires.begun.1 c.from.ensures c.if-not-is_within.ensures in
    record { fits = sum_in_range c.args.bits _ c.requires.width k.1 }

pub returns-then-byte-lt128 : goal.returns-then-byte-lt128
returns-then-byte-lt128 c p s =
    let k = sum_read c.args.bits c.from.result c.args.byte c.args.self.now p c.requires.width s c.from.ensures c.if-not-is_within.ensures in
    (rw k.0 (last_byte c.args.bits p c.args.byte s.high s.fewer k.2 c.if-byte-lt128.true), k.1)

pub returns : goal.returns
returns c p s =
    let k = sum_read c.args.bits c.from.result c.args.byte c.args.self.now p c.requires.width s c.from.ensures c.if-not-is_within.ensures in
    record {
      high = GoesOn-more p c.args.byte s.high c.if-byte-lt128.false c.ranges.byte.fits;
      count = omega (arith, s.count, length-append p (c.args.byte ∷ []));
      value = k.0 ∙ sym (number_more p c.args.byte);
      fewer = next_fewer c.args.bits p c.args.byte c.requires.width s.fewer k.2 c.if-byte-lt128.false;
    }
