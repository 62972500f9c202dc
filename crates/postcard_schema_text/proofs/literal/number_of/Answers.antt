-- If `number_of` fails, the word is no literal of a number below 2^128, with a letter of a radix or without one.
use Rattle.std.proofs.Common.{◌≡◌, ◌≢◌, ◌≤◌, get_or, subst, rules}
use Rattle.std.specs.Prelude.{IfErr}
use Rattle.postcard_schema_text.specs.Literals.{AreDigits, radix_of, IsNoNumber}
use Rattle.postcard_schema_text.proofs.Literals.{marked_refused, plain_refused}
use Rattle.postcard_schema_text.proofs.literal.number_of.Goals as goal

pub returns-in-Some-clause-refused : goal.returns-in-Some-clause-refused
returns-in-Some-clause-refused c =
    let letter = get_or c.args.word.now 1 0 in
    let same : c.in-Some.radix ≡ radix_of letter = c.in-Some.ensures.found.0 in
    marked_refused letter c.in-Some.digits.now c.args.word.now c.digits_of.result c.in-Some.ensures.found.1 (subst (λ r. 2 ≤ r) same c.in-Some.ensures.low)
    (subst (λ r. IfErr c.digits_of.result (λ e. IsNoNumber (λ n. AreDigits r n c.in-Some.digits.now) e)) same c.digits_of.ensures.refused)

pub returns-in-None-2-clause-refused : goal.returns-in-None-2-clause-refused
returns-in-None-2-clause-refused c =
    let first : get_or c.args.word.now 0 0 ≢ 95 = search rules in
    plain_refused c.args.word.now c.digits_of-in-None-2.result c.in-None-2.ensures.none first c.digits_of-in-None-2.ensures.refused
