-- The values before the loop's place are written.
use Rattle.std.proofs.Common.{Ok, take}
use Rattle.std.specs.Prelude.{map}
use Rattle.postcard_value.specs.{Wrote, canonical_all, never, tree, trees}
use Rattle.postcard_value.proofs.write.+write.Given as goal

abbrev pub invariant-write_all-loop-item : goal.invariant-write_all-loop-item
invariant-write_all-loop-item g l = Wrote g.F.Flavor l.initial.serializer.output (canonical_all (trees (map tree
    (take l.item-index l.item-items)))) never ⊥ (Ok tt) l.serializer.output
