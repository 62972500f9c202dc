-- The whole next word is compared, so a longer word isn't taken for the name.
use Rattle.std.proofs.Common.{◌≡◌, sym, ◌∙◌, true≢false}
use Rattle.std.proofs.lemmas.Bool.Decides.{Decides-eqb}
use Rattle.std.proofs.lemmas.Slice.Eq.{slice_eq-Decides}
use Rattle.postcard_schema_text.specs.FrontLemmas.{word_taken}
use Rattle.postcard_value_text.proofs.Blanks.{one_word}
use Rattle.postcard_value_text.proofs.words.take_name.Goals as goal

pub returns-then-eq-clause-taken : goal.returns-then-eq-clause-taken
returns-then-eq-clause-taken c = λ _.
    let same : c.take_word.result.now ≡ c.args.name.now = (slice_eq-Decides Decides-eqb _ _ _ c.eq.ensures).0 c.if-eq.true in
    rw same at c.take_word.ensures.taken

pub returns-then-eq-clause-one : goal.returns-then-eq-clause-one
returns-then-eq-clause-one c = λ _ some after h ends.
    sym (one_word c.args.name.now c.take_word.result.now c.args.rest.now.now c.take_word.new.rest.now after some (word_taken c.take_word.ensures.taken c.take_word.ensures.first c.take_word.ensures.whole) h ends).1

pub returns-clause-none : goal.returns-clause-none
returns-clause-none c = λ _ some after h ends.
    let k = one_word c.args.name.now c.take_word.result.now c.args.rest.now.now c.take_word.new.rest.now after some (word_taken c.take_word.ensures.taken c.take_word.ensures.first c.take_word.ensures.whole) h ends in
    true≢false (sym ((slice_eq-Decides Decides-eqb _ _ _ c.eq.ensures).1 (sym k.0)) ∙ c.if-eq.false)
