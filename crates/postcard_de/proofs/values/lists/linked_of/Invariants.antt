-- The list has the elements before the current one.
use Rattle.std.proofs.Common.{◌≡◌, ◌++◌}
use Rattle.std.specs.Vec.Iter.{into_iter_items}
use Rattle.postcard_de.proofs.values.lists.linked_of.Given as goal

abbrev pub invariant-loop-item : goal.invariant-loop-item
invariant-loop-item g l = record {
  is : l.linked ++ into_iter_items l.item-iterator ≡ l.fn.items.items;
}
