-- No call is parsed: the first of the words names no verb, or it names one, and the words after it are misused. `all` says that the words
-- are the first one and the rest, as lists of bytes.
use Rattle.std.proofs.Common.{◌∷◌, map, string_bytes, sym, ap, ◌∙◌, inl, inr, Global}
use Rattle.pcard_call.proofs.WordLemmas.{first_and_rest}
use Rattle.pcard_call.proofs.call.Call.parse.Goals as goal

pub returns-in_default-from_name-clause-misuse : goal.returns-in_default-from_name-clause-misuse
returns-in_default-from_name-clause-misuse c =
    let word = c.as_str-in_default-from_name.result.now in
    let all = first_and_rest c.args.words.now c.in-Some.rest.now c.in-Some.word.now word c.in-Some.ensures.cases c.as_str-in_default-from_name.ensures.value in
    let same = c.as_str-in_default-from_name.ensures.value ∙ sym c.as_str.ensures.value in
    inl (_, all, λ verb is. c.in_default-from_name.ensures.none verb (sym same ∙ is))

pub returns-in-Err-clause-misuse : goal.returns-in-Err-clause-misuse
returns-in-Err-clause-misuse c =
    let all = first_and_rest c.args.words.now c.in-Some.rest.now c.in-Some.word.now c.as_str.result.now c.in-Some.ensures.cases c.as_str.ensures.value in
    let named = all ∙ ap (λ w. w ∷ map (string_bytes {Z = Global}) c.in-Some.rest.now) c.in-Some-from_name.ensures.found in
    inr (c.in-Some-from_name.verb, _, named, rw c.none.ensures at c.in-Err.ensures.misused)
