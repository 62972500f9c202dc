-- The entries before the current one are written, and fit.
use Rattle.std.proofs.Common.{◌≡◌, ◌++◌, List, Ok}
use Rattle.std.specs.Prelude.{map}
use Rattle.postcard_wire.specs.Spelling.{canonical_all}
use Rattle.postcard_wire.specs.Tree.{trees}
use Rattle.postcard_shape.specs.Lists.{AllFit}
use Rattle.postcard_shape.specs.Maps.{pair}
use Rattle.postcard_ser.specs.Writing.{Wrote, never}
use Rattle.postcard_ser.proofs.values.hashes.serialize_pairs.Given as goal

abbrev pub invariant-loop-entry : goal.invariant-loop-entry
invariant-loop-entry g l =
    let s = pair g.K.Shaped.shape g.V.Shaped.shape in
    record {
      done : List (g.row.K.Denot × g.row.V.Denot);
      is : done ++ l.entry-iterator ≡ l.entries.entries;
      wrote : Wrote g.F.Flavor l.initial.serializer.output (canonical_all (trees (map s.tree done))) never ⊥ (Ok tt) l.serializer.output;
      fits : AllFit s.fits done;
    }
