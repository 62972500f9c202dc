-- The elements before the current one are written, and fit.
use Rattle.std.proofs.Common.{Ok, take}
use Rattle.std.specs.Prelude.{map}
use Rattle.postcard_wire.specs.Spelling.{canonical_all}
use Rattle.postcard_wire.specs.Tree.{trees}
use Rattle.postcard_shape.specs.Lists.{AllFit}
use Rattle.postcard_ser.specs.Writing.{Wrote, never}
use Rattle.postcard_ser.proofs.values.lists.serialize_each.Given as goal

abbrev pub invariant-loop-item : goal.invariant-loop-item
invariant-loop-item g l = record {
  wrote : Wrote g.F.Flavor l.initial.serializer.output (canonical_all (trees (map g.T.Shaped.shape.tree (take l.item-index l.items)))) never ⊥ (Ok tt) l.serializer.output;
  fits : AllFit g.T.Shaped.shape.fits (take l.item-index l.items);
}
