-- `digits_of` computes the number digit by digit. If it passes 2^128 on the way, the whole number does, too.
use Rattle.std.proofs.Common.{◌+◌, ◌≤◌, ◌^◌, drop, get_or, refl, arith}
use Rattle.std.proofs.lemmas.List.{at_drop_more}
use Rattle.std.specs.Str.Parse.{digits_value, digits_value_after}
use Rattle.postcard_schema_text.specs.Literals.{without_underscores, with_byte}
use Rattle.postcard_schema_text.proofs.Literals.{digit_at, value_more, value_grows}
use Rattle.postcard_schema_text.proofs.literal.digits_of.Goals as goal

pub with_digit-requires-clause-digit : goal.with_digit-requires-clause-digit
with_digit-requires-clause-digit c =
    digit_at c.args.radix c.args.digits.now c.loop-byte.byte-index (c.are_digits.ensures.0 c.if-not-are_digits.false).1 c.loop-byte-test.true

pub returns-in-None-clause-refused : goal.returns-in-None-clause-refused
returns-in-None-clause-refused c =
    let digits = c.args.digits.now in
    let radix = c.args.radix in
    let number = c.loop-byte.number in
    let i = c.loop-byte.byte-index in
    let b = get_or digits i 0 in
    let rest = drop (i + 1) digits in
    let first = at_drop_more (λ bs. digits_value_after radix number (without_underscores bs)) digits i 0 c.loop-byte-test.true in
    let more = value_more radix number b rest in
    let grows = value_grows radix (with_byte radix number b) (without_underscores rest) (omega (arith, c.requires.low)) in
    let large : 2 ^ 128 ≤ with_byte radix number b = omega (arith, c.in-None.ensures) in
    (digits_value radix (without_underscores digits), (c.are_digits.ensures.0 c.if-not-are_digits.false, refl), omega (arith, c.loop-byte.invariant, first, more, grows, large))
