-- None of the tokens so far ends an item.
use Rattle.std.proofs.Common.{ℕ, ◌<◌, ◌≤◌}
use Rattle.postcard_source.specs.Items.{EndsItem}
use Rattle.postcard_source.proofs.declaration.item_end.Given as goal

abbrev pub invariant-loop-last : goal.invariant-loop-last
invariant-loop-last l = (k : ℕ) → l.start ≤ k → k < l.last → EndsItem l.tokens k → ⊥
