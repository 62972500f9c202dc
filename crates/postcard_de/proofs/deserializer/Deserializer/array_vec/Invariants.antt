use Rattle.std.proofs.Common.{◌≡◌, ◌-◌, ◌≤◌, length}
use Rattle.postcard_de.specs.Deserializer.{source_of}
use Rattle.postcard_de.proofs.Lists.{Going}
use Rattle.postcard_de.proofs.deserializer.Deserializer.array_vec.Given as goal

abbrev pub invariant-loop : goal.invariant-loop
invariant-loop g l = let f = g.F.Flavor in let t = g.T.Shaped.shape in
    record {
      going : Going f.left f.able f.may_leave t.reads t.value t.other (source_of l.initial.self)
          l.count l.items.items (source_of l.self) (l.count - l.counter);
      counted : length l.items.items ≡ l.counter;
      few : length l.items.items ≤ g.row.CAP;
      leaves : f.may_leave (source_of l.initial.self) (source_of l.self);
    }
