-- A number has bits of the type if and only if it is below the power of 2 of the width.
use Rattle.std.proofs.Common.{◌<◌, ◌^◌, subst, sym, arith}
use Rattle.postcard_value.specs.NumberLemmas.{at_most_128}
use Rattle.postcard_schema_text.specs.LiteralLemmas.{one_literal}
use Rattle.postcard_value_text.specs.{IsLiteral, size_of}
use Rattle.postcard_value_text.proofs.number.unsigned_bits.Goals as goal

pub returns-then-are_bits-clause-found : goal.returns-then-are_bits-clause-found
returns-then-are_bits-clause-found c =
    (c.are_bits.ensures.within c.if-are_bits.true, subst (IsLiteral c.in-Some.n) c.after_plus.ensures c.in-Some.ensures.found)

pub returns-else-are_bits-clause-none : goal.returns-else-are_bits-clause-none
returns-else-are_bits-clause-none c = λ m (low, is).
    let n = c.in-Some.n in
    let same = one_literal m n _ is (subst (IsLiteral n) c.after_plus.ensures c.in-Some.ensures.found) in
    c.are_bits.ensures.beyond c.if-are_bits.false (subst (λ k. k < 256 ^ size_of c.args.integer) same low)

pub returns-in-None-clause-none : goal.returns-in-None-clause-none
returns-in-None-clause-none c = λ n (low, is).
    c.in-None.ensures.none n (omega (arith, low, at_most_128 c.args.integer)) (subst (IsLiteral n) (sym c.after_plus.ensures) is)
