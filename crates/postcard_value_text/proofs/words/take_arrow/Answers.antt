-- An arrow is `=` and then `>`, each with blanks before it or none. If one of the two is missing, no arrow begins the text.
use Rattle.std.proofs.Common.{refl, sym, subst}
use Rattle.postcard_schema_text.specs.Text.{TakesPhrase, IsSign}
use Rattle.postcard_schema_text.specs.FrontLemmas.{takes_split}
use Rattle.postcard_schema_text.specs.Phrases.{takes_two}
use Rattle.std.proofs.lemmas.Result.{on_ok_weaker}
use Rattle.postcard_value_text.proofs.words.take_arrow.Goals as goal

pub returns-in_err-expect-clause-accepted : goal.returns-in_err-expect-clause-accepted
returns-in_err-expect-clause-accepted c = λ after h.
    let k = takes_split (IsSign 61) (IsSign 62) c.args.rest.now.now after h in
    absurd (c.in_err-expect.ensures.accepted k.0 refl k.1)

pub returns-clause-taken : goal.returns-clause-taken
returns-clause-taken c =
    on_ok_weaker c.expect-2.result (takes_two (IsSign 61) (IsSign 62) c.args.rest.now.now c.expect.new.rest.now c.expect-2.new.rest.now c.in_ok-expect.ensures.taken) c.expect-2.ensures.taken

pub returns-clause-accepted : goal.returns-clause-accepted
returns-clause-accepted c = λ after h.
    let k = takes_split (IsSign 61) (IsSign 62) c.args.rest.now.now after h in
    c.expect-2.ensures.accepted after refl (subst (λ z. TakesPhrase (IsSign 62) z after) (sym (c.in_ok-expect.ensures.accepted k.0 refl k.1)) k.2)
