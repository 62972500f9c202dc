-- The elements before the current one are written, and fit.
use Rattle.std.proofs.Common.{◌≡◌, ◌++◌, List, Ok}
use Rattle.std.specs.Prelude.{map}
use Rattle.postcard_wire.specs.Spelling.{canonical_all}
use Rattle.postcard_wire.specs.Tree.{trees}
use Rattle.postcard_shape.specs.Lists.{AllFit}
use Rattle.postcard_ser.specs.Writing.{Wrote, never}
use Rattle.postcard_ser.proofs.values.lists.serialize_linked.Given as goal

abbrev pub invariant-loop-element : goal.invariant-loop-element
invariant-loop-element g l = record {
  done : List g.row.T.Denot;
  is : done ++ l.element-iterator ≡ l.items;
  wrote : Wrote g.F.Flavor l.initial.serializer.output (canonical_all (trees (map g.T.Shaped.shape.tree done))) never ⊥ (Ok tt) l.serializer.output;
  fits : AllFit g.T.Shaped.shape.fits done;
}
