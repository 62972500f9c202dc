use Rattle.std.proofs.Common.{◌≡◌, ◌-◌, List, []}
use Rattle.postcard_shape.specs.Shape.{or_memory, either}
use Rattle.postcard_de.specs.Deserializer.{source_of}
use Rattle.postcard_shape.specs.Maps.{IsEntry, EntryIs, inserted}
use Rattle.postcard_de.proofs.Lists.{Going}
use Rattle.postcard_de.proofs.deserializer.Deserializer.map.Given as goal

abbrev pub invariant-loop : goal.invariant-loop
invariant-loop g l =
    let f = g.F.Flavor in
    let k = g.K.Shaped.shape in
    let v = g.V.Shaped.shape in
    record {
      pairs : List (g.row.K.Denot × g.row.V.Denot);
      going : Going f.left f.able f.may_leave (IsEntry k.reads v.reads) (EntryIs k.value v.value)
          (or_memory (either k.other v.other))
          (source_of l.initial.self) l.count pairs (source_of l.self) (l.count - l.counter);
      made : l.map.entries ≡ inserted g.K.Ord.cmp pairs [];
    }
