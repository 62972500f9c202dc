-- A signed number in the type's range has one pattern of bits. Any other has none.
use Rattle.std.proofs.Common.{subst, sym, rules}
use Rattle.std.specs.Int.{w128}
use Rattle.std.specs.Prelude.{FitsSigned}
use Rattle.std.proofs.lemmas.Int.{to_z-of_z}
use Rattle.postcard_value.specs.NumberLemmas.{fits_128}
use Rattle.postcard_value_text.specs.Numbers.{IsSigned}
use Rattle.postcard_value_text.proofs.Numbers.{signed_found, signed_refused}
use Rattle.postcard_value_text.proofs.number.signed_bits.Goals as goal

pub returns-in-Some-clause-found : goal.returns-in-Some-clause-found
returns-in-Some-clause-found c =
    let z = c.in-Some.z in
    let fits : FitsSigned w128 z = search rules in
    signed_found c.args.integer c.args.word.now _ c.bits_of.result (subst (λ y. IsSigned y c.args.word.now) (sym (to_z-of_z w128 z fits)) c.in-Some.ensures.found) c.bits_of.ensures.bits

pub returns-in-Some-clause-none : goal.returns-in-Some-clause-none
returns-in-Some-clause-none c =
    let z = c.in-Some.z in
    let fits : FitsSigned w128 z = search rules in
    signed_refused c.args.integer c.args.word.now _ c.bits_of.result (subst (λ y. IsSigned y c.args.word.now) (sym (to_z-of_z w128 z fits)) c.in-Some.ensures.found) c.bits_of.ensures.none

pub returns-in-None-clause-none : goal.returns-in-None-clause-none
returns-in-None-clause-none c = λ n (z, is, h). c.in-None.ensures.none z (fits_128 c.args.integer z n is) h
