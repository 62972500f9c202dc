-- The code so far is that of the digits before the loop's place. Where a digit or a brace is missing, no code begins the text.
use Rattle.std.proofs.Common.{◌∷◌, ◌≤◌, [], refl, sym, ap, subst, ◌∙◌, arith, inl}
use Rattle.std.specs.Char.{IsScalar}
use Rattle.std.proofs.lemmas.Result.{IfOk-weaker, IfErr-weaker, MatchResult-from_both, err_from_is_err_and}
use Rattle.postcard_value_text.specs.{IsCode, TakesPhrase}
use Rattle.postcard_value_text.proofs.Quotes.{digit_more, code_small, code_takes}
use Rattle.postcard_value_text.proofs.QuotedFronts.{code_begins, code_not_ended, code_left_not_ended, code_closes, code_digit}
use Rattle.postcard_value_text.proofs.quoted.take_code.Goals as goal

pub loop-count-init : goal.loop-count-init
loop-count-init c = record {
  taken = ([], tt, refl, refl, c.in_ok-take_byte.ensures.taken ∙ ap (λ b. b ∷ c.take_byte.new.rest.now) c.if-branch-ne123.false);
  left = λ k after h. (code_begins k c.args.rest.now.now c.take_byte.new.rest.now after c.in_ok-take_byte.field-0 h c.in_ok-take_byte.ensures.taken).1;
}

pub returns-in_err-take_byte-clause-accepted : goal.returns-in_err-take_byte-clause-accepted
returns-in_err-take_byte-clause-accepted c = λ k after h.
    absurd (code_not_ended k after (subst (λ t. TakesPhrase (IsCode k) t after) c.in_err-take_byte.ensures.ended.1 h))

pub returns-then-branch-ne123-clause-accepted : goal.returns-then-branch-ne123-clause-accepted
returns-then-branch-ne123-clause-accepted c = λ k after h.
    c.if-branch-ne123.true (code_begins k c.args.rest.now.now c.take_byte.new.rest.now after c.in_ok-take_byte.field-0 h c.in_ok-take_byte.ensures.taken).0

pub returns-in_err-byte-clause-accepted : goal.returns-in_err-byte-clause-accepted
returns-in_err-byte-clause-accepted c = λ k after h.
    let l = c.loop-count in
    absurd (code_left_not_ended l.count l.code k l.rest.now after (l.invariant.left k after h) c.in_err-byte.ensures.ended.1)

pub returns-then-byte-eq125-clause-accepted : goal.returns-then-byte-eq125-clause-accepted
returns-then-byte-eq125-clause-accepted c = λ k after h.
    let l = c.loop-count in
    let next = c.in_ok-byte.ensures.taken ∙ ap (λ b. b ∷ c.take_byte-in-loop-count.new.rest.now) c.if-byte-eq125.true in
    let m = code_closes l.count l.code k l.rest.now c.take_byte-in-loop-count.new.rest.now after (l.invariant.left k after h) next in
    MatchResult-from_both c.character.result _ _
    (IfOk-weaker c.character.result _ _ (λ x (some, scalar, is). (is ∙ sym m.0, m.3)) c.character.ensures.found)
    (IfErr-weaker c.character.result _ _ (λ stop none. none m.2 (subst IsScalar m.0 m.1)) c.character.ensures.none)

pub returns-in_err-digit-clause-accepted : goal.returns-in_err-digit-clause-accepted
returns-in_err-digit-clause-accepted c = λ k after h.
    let l = c.loop-count in
    let m = code_digit l.count l.code k c.in_ok-byte.byte l.rest.now c.take_byte-in-loop-count.new.rest.now after (l.invariant.left k after h) c.in_ok-byte.ensures.taken c.if-byte-eq125.false in
    absurd (c.in_err-digit.ensures.refused.1 m.0)

pub returns-clause-accepted : goal.returns-clause-accepted
returns-clause-accepted c = λ k after h.
    let l = c.loop-count in
    let few = (l.invariant.left k after h).few in
    omega (arith, few, c.loop-count-test.false)

pub returns-then-byte-eq125-clause-code : goal.returns-then-byte-eq125-clause-code
returns-then-byte-eq125-clause-code c =
    let l = c.loop-count in
    let after = c.take_byte-in-loop-count.new.rest.now in
    let few : l.count ≤ 6 = omega (arith, c.loop-count-test.true) in
    let next = c.in_ok-byte.ensures.taken ∙ ap (λ b. b ∷ after) c.if-byte-eq125.true in
    IfOk-weaker c.character.result _ (λ x. TakesPhrase (IsCode x) c.args.rest.now.now after)
    (λ x (some, scalar, is). rw is (code_takes l.count l.code c.args.rest.now.now l.rest.now after l.invariant.taken some few next scalar)) c.character.ensures.found

pub returns-then-byte-eq125-clause-place : goal.returns-then-byte-eq125-clause-place
returns-then-byte-eq125-clause-place c = IfErr-weaker c.character.result _ _ (λ stop h. inl h) c.character.ensures.refused

pub returns-in_err-digit-clause-place : goal.returns-in_err-digit-clause-place
returns-in_err-digit-clause-place c =
    let p = err_from_is_err_and c.from_residual-in_err-digit.result c.from_residual-in_err-digit.ensures.1 in
    rw (p.1, p.2) (inl c.in_err-digit.ensures.refused.0)

pub loop-count-preserved : goal.loop-count-preserved
loop-count-preserved c =
    let l = c.loop-count in
    let digit = c.in_ok-digit.ensures.digit in
    let b = c.take_byte-in-loop-count.new.rest.now in
    rw (c.from.ensures, digit.1) record {
      taken = digit_more l.count l.code c.in_ok-byte.byte c.args.rest.now.now l.rest.now b l.invariant.taken c.in_ok-byte.ensures.taken (rw digit.1 at digit.0);
      left = λ k after h. (code_digit l.count l.code k c.in_ok-byte.byte l.rest.now b after (l.invariant.left k after h) c.in_ok-byte.ensures.taken c.if-byte-eq125.false).1;
    }

pub overflow_mul-code : goal.overflow_mul-code
overflow_mul-code c =
    let l = c.loop-count in
    let few : l.count ≤ 6 = omega (arith, c.loop-count-test.true) in
    let small = code_small l.count l.code c.args.rest.now.now l.rest.now l.invariant.taken few in
    omega (arith, small)

pub overflow_add-code : goal.overflow_add-code
overflow_add-code c =
    let l = c.loop-count in
    let few : l.count ≤ 6 = omega (arith, c.loop-count-test.true) in
    let small = code_small l.count l.code c.args.rest.now.now l.rest.now l.invariant.taken few in
    omega (arith, small, c.from.ensures, c.in_ok-digit.ensures.digit.0)
