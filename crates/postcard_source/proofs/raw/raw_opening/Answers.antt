use Rattle.postcard_source.proofs.Decided.{unless}
use Rattle.postcard_source.proofs.RawFronts.{no_prefix, no_quote}
use Rattle.postcard_source.proofs.raw.raw_opening.Goals as goal

pub returns-then-not-is_raw_prefix-clause-none : goal.returns-then-not-is_raw_prefix-clause-none
returns-then-not-is_raw_prefix-clause-none c = λ hashes inner.
    no_prefix c.word_front.result.0.now c.word_front.result.1.now c.args.text.now hashes inner c.word_front.ensures (unless c.is_raw_prefix.ensures c.if-not-is_raw_prefix.true)

pub returns-in-None-clause-none : goal.returns-in-None-clause-none
returns-in-None-clause-none c = λ hashes inner.
    no_quote c.word_front.result.0.now c.word_front.result.1.now c.args.text.now c.hashes_front.result.0.now c.hashes_front.result.1.now hashes inner
    c.word_front.ensures c.hashes_front.ensures c.in-None.ensures.none
