use Rattle.std.proofs.Common.{◌≤◌, arith}
use Rattle.std.proofs.lemmas.Option.{slice_get_within}
use Rattle.postcard_source.specs.Items.{EndsItem}
use Rattle.postcard_source.proofs.Decided.{unless}
use Rattle.postcard_source.proofs.declaration.item_end.Goals as goal
use borrow.Author.Count.{below_more}

pub loop-last-preserved : goal.loop-last-preserved
loop-last-preserved c = λ k low high.
    below_more (λ n. c.args.start ≤ n → EndsItem c.args.tokens.now n → ⊥) c.loop-last.last
    (λ n less start. c.loop-last.invariant n start less) (λ _. unless c.ends_item.ensures c.if-ends_item.false) k high low

pub returns-clause-none : goal.returns-clause-none
returns-clause-none c = λ end (last, is_end, low, (t, is_t, outside, says), before).
    c.loop-last.invariant last low (omega (arith, slice_get_within c.args.tokens.now last t is_t)) (t, is_t, outside, says)
