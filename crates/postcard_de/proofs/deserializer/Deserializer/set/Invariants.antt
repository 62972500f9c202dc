use Rattle.std.proofs.Common.{◌≡◌, ◌-◌, List, []}
use Rattle.postcard_shape.specs.Shape.{or_memory}
use Rattle.postcard_de.specs.Deserializer.{source_of}
use Rattle.postcard_shape.specs.Maps.{keys_inserted}
use Rattle.postcard_de.proofs.Lists.{Going}
use Rattle.postcard_de.proofs.deserializer.Deserializer.set.Given as goal

abbrev pub invariant-loop : goal.invariant-loop
invariant-loop g l =
    let f = g.F.Flavor in
    let k = g.K.Shaped.shape in
    record {
      read : List g.row.K.Denot;
      going : Going f.left f.able f.may_leave k.reads k.value (or_memory k.other)
          (source_of l.initial.self) l.count read (source_of l.self) (l.count - l.counter);
      made : l.set.keys ≡ keys_inserted g.K.Ord.cmp read [];
    }
