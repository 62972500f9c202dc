-- The keys before the current one are written, and fit.
use Rattle.std.proofs.Common.{◌≡◌, ◌++◌, List, Ok}
use Rattle.std.specs.Prelude.{map}
use Rattle.postcard_wire.specs.Spelling.{canonical_all}
use Rattle.postcard_wire.specs.Tree.{trees}
use Rattle.postcard_shape.specs.Lists.{AllFit}
use Rattle.postcard_ser.specs.Writing.{Wrote, never}
use Rattle.postcard_ser.proofs.values.hashes.serialize_keys.Given as goal

abbrev pub invariant-loop-key : goal.invariant-loop-key
invariant-loop-key g l = record {
  done : List g.row.K.Denot;
  is : done ++ l.key-iterator ≡ l.keys.keys;
  wrote : Wrote g.F.Flavor l.initial.serializer.output (canonical_all (trees (map g.K.Shaped.shape.tree done))) never ⊥ (Ok tt) l.serializer.output;
  fits : AllFit g.K.Shaped.shape.fits done;
}
