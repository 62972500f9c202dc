-- Putting the keys before the current one into an empty container makes this one.
use Rattle.std.proofs.Common.{◌≡◌, ◌++◌, List, []}
use Rattle.std.specs.Vec.Iter.{into_iter_items}
use Rattle.postcard_shape.specs.Maps.{Puts, PutsKey}
use Rattle.postcard_de.proofs.values.hashes.set_of.Given as goal

abbrev pub invariant-loop-key : goal.invariant-loop-key
invariant-loop-key g l = record {
  done : List g.row.K.Denot;
  is : done ++ into_iter_items l.key-iterator ≡ l.fn.keys.items;
  made : Puts (PutsKey g.K.PartialEq.eq) done [] l.set.keys;
}
