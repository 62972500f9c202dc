-- By cases of the first word: none, an operand, an option without a value, or one with a value. The words after it are read by the same
-- function.
use Rattle.std.proofs.Common.{◌≡◌, ◌∷◌, map, string_bytes, sym, ap, ◌∙◌, Global, true, false}
use Rattle.pcard_call.specs.Options.{has_value}
use Rattle.pcard_call.specs.Calls.{begins_option, at_end, at_operand, switch, valued, bad_option, no_value, bad_value, after_switch, after_value}
use Rattle.pcard_call.specs.Options.{given_of}
use Rattle.pcard_call.proofs.WordLemmas.{first_and_rest, none, if_ok, if_err}
use Rattle.pcard_call.proofs.call.+read_options.Goals as goal

pub returns-in_default-clause-read : goal.returns-in_default-clause-read
returns-in_default-clause-read t c =
    let is = ap (map (string_bytes {Z = Global})) (none c.args.words.now c.in_default.ensures.cases) in
    rw is (at_end (given_of c.args.given))

pub returns-then-not-begins_option-clause-read : goal.returns-then-not-begins_option-clause-read
returns-then-not-begins_option-clause-read t c =
    let all = first_and_rest c.args.words.now c.in-Some.rest.now c.in-Some.word.now c.as_str.result.now c.in-Some.ensures.cases c.as_str.ensures.value in
    rw all (at_operand (given_of c.args.given) c.as_str.result.now _ (sym c.begins_option.ensures ∙ c.if-not-begins_option.true))

pub returns-in-Err-clause-misused : goal.returns-in-Err-clause-misused
returns-in-Err-clause-misused t c =
    let all = first_and_rest c.args.words.now c.in-Some.rest.now c.in-Some.word.now c.as_str-2.result.now c.in-Some.ensures.cases c.as_str-2.ensures.value in
    let begins = sym (ap begins_option (c.as_str-2.ensures.value ∙ sym c.as_str.ensures.value)) in
    let is : begins_option c.as_str-2.result.now ≡ true = sym begins ∙ sym c.begins_option.ensures ∙ c.if-not-begins_option.false in
    rw all (bad_option (given_of c.args.given) c.as_str-2.result.now _ c.in-Err.misuse is c.in-Err.ensures.misused)

pub returns-then-not-has_value-clause-read : goal.returns-then-not-has_value-clause-read
returns-then-not-has_value-clause-read t c =
    let all = first_and_rest c.args.words.now c.in-Some.rest.now c.in-Some.word.now c.as_str-2.result.now c.in-Some.ensures.cases c.as_str-2.ensures.value in
    let none_of : has_value c.in-Ok.option ≡ false = sym c.has_value.ensures ∙ c.if-not-has_value.true in
    rw all (if_ok c.read_options.result
    (λ r h. switch (given_of c.args.given) _ c.in-Ok.option c.as_str-2.result.now _ _ c.in-Ok.ensures.found none_of h)
    (rw c.with.ensures at c.read_options.ensures.read))

pub returns-then-not-has_value-clause-misused : goal.returns-then-not-has_value-clause-misused
returns-then-not-has_value-clause-misused t c =
    let all = first_and_rest c.args.words.now c.in-Some.rest.now c.in-Some.word.now c.as_str-2.result.now c.in-Some.ensures.cases c.as_str-2.ensures.value in
    let none_of : has_value c.in-Ok.option ≡ false = sym c.has_value.ensures ∙ c.if-not-has_value.true in
    rw all (if_err c.read_options.result
    (λ e h. after_switch (given_of c.args.given) c.in-Ok.option c.as_str-2.result.now _ e c.in-Ok.ensures.found none_of h)
    (rw c.with.ensures at c.read_options.ensures.misused))

pub returns-in_default-split_first-clause-misused : goal.returns-in_default-split_first-clause-misused
returns-in_default-split_first-clause-misused t c =
    let all = first_and_rest c.args.words.now c.in-Some.rest.now c.in-Some.word.now c.as_str-2.result.now c.in-Some.ensures.cases c.as_str-2.ensures.value in
    let end = ap (map (string_bytes {Z = Global})) (none c.in-Some.rest.now c.in_default-split_first.ensures.cases) in
    let some : has_value c.in-Ok.option ≡ true = sym c.has_value.ensures ∙ c.if-not-has_value.false in
    rw (all ∙ ap (λ z. c.as_str-2.result.now ∷ z) end) (no_value (given_of c.args.given) c.in-Ok.option c.as_str-2.result.now c.in-Ok.ensures.found some)

pub returns-in-Ok-with_value-clause-read : goal.returns-in-Ok-with_value-clause-read
returns-in-Ok-with_value-clause-read t c =
    let first = first_and_rest c.args.words.now c.in-Some.rest.now c.in-Some.word.now c.as_str-2.result.now c.in-Some.ensures.cases c.as_str-2.ensures.value in
    let second = first_and_rest c.in-Some.rest.now c.in-Some-split_first.rest.now c.in-Some-split_first.value.now c.as_str-3.result.now c.in-Some-split_first.ensures.cases c.as_str-3.ensures.value in
    let some : has_value c.in-Ok.option ≡ true = sym c.has_value.ensures ∙ c.if-not-has_value.false in
    rw (first ∙ ap (λ z. c.as_str-2.result.now ∷ z) second) (if_ok c.read_options-in-Ok-with_value.result
    (λ r h. valued (given_of c.args.given) _ _ c.in-Ok.option c.as_str-2.result.now c.as_str-3.result.now _ _ c.in-Ok.ensures.found some
    c.in-Ok-with_value.ensures.added h)
    c.read_options-in-Ok-with_value.ensures.read)

pub returns-in-Ok-with_value-clause-misused : goal.returns-in-Ok-with_value-clause-misused
returns-in-Ok-with_value-clause-misused t c =
    let first = first_and_rest c.args.words.now c.in-Some.rest.now c.in-Some.word.now c.as_str-2.result.now c.in-Some.ensures.cases c.as_str-2.ensures.value in
    let second = first_and_rest c.in-Some.rest.now c.in-Some-split_first.rest.now c.in-Some-split_first.value.now c.as_str-3.result.now c.in-Some-split_first.ensures.cases c.as_str-3.ensures.value in
    let some : has_value c.in-Ok.option ≡ true = sym c.has_value.ensures ∙ c.if-not-has_value.false in
    rw (first ∙ ap (λ z. c.as_str-2.result.now ∷ z) second) (if_err c.read_options-in-Ok-with_value.result
    (λ e h. after_value (given_of c.args.given) _ c.in-Ok.option c.as_str-2.result.now c.as_str-3.result.now _ e c.in-Ok.ensures.found some
    c.in-Ok-with_value.ensures.added h)
    c.read_options-in-Ok-with_value.ensures.misused)

pub returns-in-Err-with_value-clause-misused : goal.returns-in-Err-with_value-clause-misused
returns-in-Err-with_value-clause-misused t c =
    let first = first_and_rest c.args.words.now c.in-Some.rest.now c.in-Some.word.now c.as_str-2.result.now c.in-Some.ensures.cases c.as_str-2.ensures.value in
    let second = first_and_rest c.in-Some.rest.now c.in-Some-split_first.rest.now c.in-Some-split_first.value.now c.as_str-3.result.now c.in-Some-split_first.ensures.cases c.as_str-3.ensures.value in
    let some : has_value c.in-Ok.option ≡ true = sym c.has_value.ensures ∙ c.if-not-has_value.false in
    rw (first ∙ ap (λ z. c.as_str-2.result.now ∷ z) second)
    (bad_value (given_of c.args.given) c.in-Ok.option c.as_str-2.result.now c.as_str-3.result.now _ c.in-Err-with_value.misuse c.in-Ok.ensures.found some
    c.in-Err-with_value.ensures.misused)
