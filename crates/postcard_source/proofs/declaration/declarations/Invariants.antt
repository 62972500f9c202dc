-- The declarations so far are those of the items before the index.
use Rattle.postcard_source.specs.Items.{AreDeclaredBefore}
use Rattle.postcard_source.proofs.declaration.declarations.Given as goal

abbrev pub invariant-loop-at : goal.invariant-loop-at
invariant-loop-at l = AreDeclaredBefore l.tokens l.at l.known.items
