-- `skip_lifetime` takes a `'` and the word after it. Without a `'` it takes nothing, and without a name no lifetime is there.
use Rattle.std.proofs.Common.{refl, sym, ◌∙◌, true≢false, inl, inr}
use Rattle.postcard_schema_text.specs.FrontLemmas.{word_taken}
use Rattle.postcard_schema_text.proofs.LeftOfReference.{lifetime_name}
use Rattle.postcard_schema_text.proofs.scan.skip_lifetime.Goals as goal

pub returns-then-not-take-clause-taken : goal.returns-then-not-take-clause-taken
returns-then-not-take-clause-taken c = inl (c.take.ensures.none c.if-not-take.true refl, c.take.ensures.left c.if-not-take.true)

pub returns-then-not-is_identifier-clause-none : goal.returns-then-not-is_identifier-clause-none
returns-then-not-is_identifier-clause-none c after h =
    let word = c.take_word-name in
    let quote = c.take.ensures.taken c.if-not-take.false in
    let named = lifetime_name c.args.rest.now.now c.take.new.rest.now word.result.now word.new.rest.now after quote (word_taken word.ensures.taken word.ensures.first word.ensures.whole) h in
    true≢false (sym (c.is_identifier.ensures.1 named) ∙ c.if-not-is_identifier.true)

pub returns-clause-taken : goal.returns-clause-taken
returns-clause-taken c =
    let word = c.take_word-name in
    inr (c.take.new.rest.now, word.result.now, c.is_identifier.ensures.0 c.if-not-is_identifier.false, c.take.ensures.taken c.if-not-take.false, word.ensures.taken, word.ensures.whole)
