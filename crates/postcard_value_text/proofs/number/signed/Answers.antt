-- By cases of the sign. The magnitude after it denotes the number, and must fit `i128`.
use Rattle.std.proofs.Common.{[], ◌∷◌, arith}
use Rattle.std.specs.Prelude.{pos, Some, None}
use Rattle.std.proofs.lemmas.Bool.Decides.{Decides-eqb}
use Rattle.std.proofs.lemmas.Int.{ints}
use Rattle.std.proofs.lemmas.Slice.Eq.{strip_prefix_is}
use Rattle.postcard_value_text.proofs.Numbers.{minus, minus_found, minus_spelled, plain_spelled, signed_none}
use Rattle.postcard_value_text.proofs.number.signed.Goals as goal

pub returns-in-Some-magnitude-clause-found : goal.returns-in-Some-magnitude-clause-found
returns-in-Some-magnitude-clause-found c =
    let is = strip_prefix_is Decides-eqb c.args.word.now (45 ∷ []) (Some c.in-Some.digits) c.in-Some.ensures.cases in
    minus_found c.args.word.now c.in-Some.digits.now c.in-Some-magnitude.n c.checked_sub_unsigned.result _ is c.in-Some-magnitude.ensures.found c.checked_sub_unsigned.ensures (omega (arith, ints))

pub returns-in-None-magnitude-clause-none : goal.returns-in-None-magnitude-clause-none
returns-in-None-magnitude-clause-none c = λ z fits h.
    let is = strip_prefix_is Decides-eqb c.args.word.now (45 ∷ []) (Some c.in-Some.digits) c.in-Some.ensures.cases in
    let k = minus_spelled c.args.word.now c.in-Some.digits.now z is fits h in
    c.in-None-magnitude.ensures.none k.0 k.1 k.2

pub returns-in-None-magnitude-2-clause-none : goal.returns-in-None-magnitude-2-clause-none
returns-in-None-magnitude-2-clause-none c = λ z fits h.
    let none = strip_prefix_is Decides-eqb c.args.word.now (45 ∷ []) None c.in-None.ensures.cases in
    let k = plain_spelled c.args.word.now z none fits h in
    c.in-None-magnitude-2.ensures.none k.0 k.1 (rw c.after_plus.ensures k.2)

pub returns-in-Some-magnitude-clause-none : goal.returns-in-Some-magnitude-clause-none
returns-in-Some-magnitude-clause-none c =
    let is = strip_prefix_is Decides-eqb c.args.word.now (45 ∷ []) (Some c.in-Some.digits) c.in-Some.ensures.cases in
    signed_none minus c.args.word.now c.in-Some.digits.now c.in-Some-magnitude.n c.checked_sub_unsigned.result _
    (λ z fits h. minus_spelled c.args.word.now c.in-Some.digits.now z is fits h) c.in-Some-magnitude.ensures.found c.checked_sub_unsigned.ensures
    (omega (arith, ints))

pub returns-in-Some-magnitude-2-clause-none : goal.returns-in-Some-magnitude-2-clause-none
returns-in-Some-magnitude-2-clause-none c =
    let none = strip_prefix_is Decides-eqb c.args.word.now (45 ∷ []) None c.in-None.ensures.cases in
    signed_none pos c.args.word.now c.after_plus.result.now c.in-Some-magnitude-2.n c.checked_add_unsigned.result _
    (λ z fits h. rw c.after_plus.ensures (plain_spelled c.args.word.now z none fits h)) c.in-Some-magnitude-2.ensures.found
    c.checked_add_unsigned.ensures (omega (arith, ints))
