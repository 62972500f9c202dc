-- An option is read, and then those after it. A word that is no option, or one that is given already, makes the words misused.
-- `all` says that the words are the first one and those after it.
use Rattle.std.proofs.Common.{◌≡◌, map, string_bytes, sym, ap, ◌∙◌, Global, true}
use Rattle.pcard_call.proofs.WordLemmas.{first_and_rest, none, if_ok, if_err}
use Rattle.pcard_compat.specs.Requests.{begins_switch, at_end, at_operand, after, bad_switch, later}
use Rattle.pcard_compat.proofs.request.+read_options.Goals as goal

pub returns-in_default-clause-read : goal.returns-in_default-clause-read
returns-in_default-clause-read t c =
    let is = ap (map (string_bytes {Z = Global})) (none c.args.words.now c.in_default.ensures.cases) in
    rw is (at_end c.args.given)

pub returns-then-not-begins_switch-clause-read : goal.returns-then-not-begins_switch-clause-read
returns-then-not-begins_switch-clause-read t c =
    let all = first_and_rest c.args.words.now c.in-Some.rest.now c.in-Some.word.now c.as_str.result.now c.in-Some.ensures.cases c.as_str.ensures.value in
    rw all (at_operand c.args.given c.as_str.result.now _ (sym c.begins_switch.ensures ∙ c.if-not-begins_switch.true))

pub returns-in-Err-clause-misused : goal.returns-in-Err-clause-misused
returns-in-Err-clause-misused t c =
    let all = first_and_rest c.args.words.now c.in-Some.rest.now c.in-Some.word.now c.as_str-2.result.now c.in-Some.ensures.cases c.as_str-2.ensures.value in
    let begins = sym (ap begins_switch (c.as_str-2.ensures.value ∙ sym c.as_str.ensures.value)) in
    let is : begins_switch c.as_str-2.result.now ≡ true = sym begins ∙ sym c.begins_switch.ensures ∙ c.if-not-begins_switch.false in
    rw all (bad_switch c.args.given c.as_str-2.result.now _ c.in-Err.misuse is c.in-Err.ensures.misused)

pub returns-in-Ok-clause-read : goal.returns-in-Ok-clause-read
returns-in-Ok-clause-read t c =
    let all = first_and_rest c.args.words.now c.in-Some.rest.now c.in-Some.word.now c.as_str-2.result.now c.in-Some.ensures.cases c.as_str-2.ensures.value in
    rw all (if_ok c.read_options.result
    (λ r h. after c.args.given _ c.in-Ok.switch c.as_str-2.result.now _ _ c.in-Ok.ensures.found h)
    (rw c.with.ensures at c.read_options.ensures.read))

pub returns-in-Ok-clause-misused : goal.returns-in-Ok-clause-misused
returns-in-Ok-clause-misused t c =
    let all = first_and_rest c.args.words.now c.in-Some.rest.now c.in-Some.word.now c.as_str-2.result.now c.in-Some.ensures.cases c.as_str-2.ensures.value in
    rw all (if_err c.read_options.result
    (λ e h. later c.args.given c.in-Ok.switch c.as_str-2.result.now _ e c.in-Ok.ensures.found h)
    (rw c.with.ensures at c.read_options.ensures.misused))
