use Rattle.std.proofs.Common.{◌≡◌, length, inl, inr, arith}
use Rattle.std.proofs.lemmas.Grind.{common_steps}
use Rattle.postcard_source.proofs.Gaps.{no_lifetime}
use Rattle.postcard_source.proofs.lex.after_lifetime.Goals as goal

pub returns-then-is_empty-clause-none : goal.returns-then-is_empty-clause-none
returns-then-is_empty-clause-none c = λ rest.
    let empty : length c.word_front.result.0.now ≡ 0 = grind (arith, common_steps) in
    no_lifetime c.args.text.now c.in-Some.inner.now c.word_front.result.0.now c.word_front.result.1.now rest c.in-Some.ensures.found c.word_front.ensures (inl empty)

pub returns-in-Some-after_byte-clause-none : goal.returns-in-Some-after_byte-clause-none
returns-in-Some-after_byte-clause-none c = λ rest.
    no_lifetime c.args.text.now c.in-Some.inner.now c.word_front.result.0.now c.word_front.result.1.now rest c.in-Some.ensures.found c.word_front.ensures
    (inr (c.in-Some-after_byte.field-0.now, c.in-Some-after_byte.ensures.found))
