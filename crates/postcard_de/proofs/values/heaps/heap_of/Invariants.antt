-- The elements before the current one are those of the heap.
use Rattle.std.proofs.Common.{◌≡◌, ◌++◌, List}
use Rattle.std.specs.BinaryHeap.{heap_items}
use Rattle.std.specs.List.Sorted.{IsPermutation}
use Rattle.std.specs.Vec.Iter.{into_iter_items}
use Rattle.postcard_de.proofs.values.heaps.heap_of.Given as goal

abbrev pub invariant-loop-item : goal.invariant-loop-item
invariant-loop-item g l = record {
  done : List g.row.T.Denot;
  is : done ++ into_iter_items l.item-iterator ≡ l.fn.items.items;
  moved : IsPermutation done (heap_items l.heap);
}
