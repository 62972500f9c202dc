-- A quote is next, and after it the name and a quote. Otherwise no quoted name begins the text.
use Rattle.std.proofs.Common.{[], ◌∷◌, ◌++◌, ◌≡◌, refl}
use Rattle.postcard_schema_text.specs.Text.{IsSign}
use Rattle.postcard_schema_text.specs.FrontLemmas.{takes_split}
use Rattle.postcard_value_text.proofs.Blanks.{quoted_taken, quoted_left, same_left}
use Rattle.postcard_value_text.proofs.words.take_quoted_name.Goals as goal

pub returns-in-Some-clause-taken : goal.returns-in-Some-clause-taken
returns-in-Some-clause-taken c = λ _.
    quoted_taken c.args.name.now c.args.rest.now.now c.take.new.rest.now c.in-Some.after.now (c.take.ensures.taken c.if-not-take.false) c.in-Some.ensures.found

pub returns-in-Some-clause-one : goal.returns-in-Some-clause-one
returns-in-Some-clause-one c = λ _ after h.
    same_left c.args.name.now c.in-Some.after.now after c.take.new.rest.now c.in-Some.ensures.found
    (quoted_left c.args.name.now c.args.rest.now.now c.take.new.rest.now after (c.take.ensures.taken c.if-not-take.false) h)

pub returns-in-None-clause-none : goal.returns-in-None-clause-none
returns-in-None-clause-none c = λ _ after h.
    c.in-None.ensures.none after (quoted_left c.args.name.now c.args.rest.now.now c.take.new.rest.now after (c.take.ensures.taken c.if-not-take.false) h)

pub returns-then-not-take-clause-none : goal.returns-then-not-take-clause-none
returns-then-not-take-clause-none c = λ _ after h.
    let k = takes_split (IsSign 34) (λ end. end ≡ c.args.name.now ++ 34 ∷ []) c.args.rest.now.now after h in
    c.take.ensures.none c.if-not-take.true refl k.0 k.1
