-- The entries before the current one are written, and fit.
use Rattle.std.proofs.Common.{◌≡◌, ◌++◌, List, Ok}
use Rattle.std.specs.Prelude.{map}
use Rattle.postcard_wire.specs.Spelling.{canonical_all}
use Rattle.postcard_wire.specs.Tree.{trees}
use Rattle.postcard_shape.specs.Maps.{entry_tree}
use Rattle.postcard_shape.specs.Lists.{AllFit}
use Rattle.postcard_ser.specs.Writing.{Wrote, never}
use Rattle.postcard_ser.proofs.values.maps.serialize_entries.Given as goal

abbrev pub invariant-loop-entry : goal.invariant-loop-entry
invariant-loop-entry g l = record {
  done : List (g.row.K.Denot × g.row.V.Denot);
  is : done ++ l.entry-iterator ≡ l.entries.entries;
  wrote : Wrote g.F.Flavor l.initial.serializer.output (canonical_all (trees (map (entry_tree g.K.Shaped.shape.tree g.V.Shaped.shape.tree) done))) never ⊥ (Ok tt) l.serializer.output;
  fits : AllFit (λ (e : g.row.K.Denot × g.row.V.Denot). g.K.Shaped.shape.fits e.0 × g.V.Shaped.shape.fits e.1) done;
}
