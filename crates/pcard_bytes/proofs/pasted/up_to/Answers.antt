-- No mark begins before index `end`, so the first mark that the loop finds is the first in the text.
use Rattle.std.proofs.Common.{sym, ◌∙◌}
use Rattle.pcard_bytes.proofs.PastedLemmas.{up_to-none, up_to-found, up_to-all}
use Rattle.pcard_bytes.proofs.pasted.up_to.Goals as goal

pub returns-then-starts_with-clause-before : goal.returns-then-starts_with-clause-before
returns-then-starts_with-clause-before c = sym (c.loop-end.invariant ∙ up_to-found _ _ _ c.loop-end-test.true (sym c.starts_with.ensures.value ∙ c.if-starts_with.true))

pub loop-end-preserved : goal.loop-end-preserved
loop-end-preserved c = c.loop-end.invariant ∙ up_to-none _ _ _ c.loop-end-test.true (sym c.starts_with.ensures.value ∙ c.if-starts_with.false)

pub returns-clause-before : goal.returns-clause-before
returns-clause-before c = sym (c.loop-end.invariant ∙ up_to-all _ _ _ c.loop-end-test.false)
