use Rattle.std.specs.Prelude.{◌-◌, ◌≤◌, vec_len}
use Rattle.postcard_shape.specs.Shape.{or_memory}
use Rattle.postcard_de.specs.Deserializer.{source_of}
use Rattle.postcard_de.proofs.Lists.{Going}
use Rattle.postcard_de.proofs.deserializer.Deserializer.list.Given as goal

abbrev pub invariant-elements : goal.invariant-elements
invariant-elements g l = let f = g.F.Flavor in let t = g.T.Shaped.shape in
    record {
      within : vec_len l.items ≤ l.count;
      so : Going f.left f.able f.may_leave t.reads t.value (or_memory t.other) (source_of l.initial.self) l.count
          l.items.items (source_of l.self) (l.count - vec_len l.items);
    }

abbrev pub decreases-elements : goal.decreases-elements
decreases-elements g l = l.count - vec_len l.items
