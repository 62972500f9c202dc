use Rattle.std.proofs.Common.{◌≡◌, ◌-◌, length, take}
use Rattle.postcard_de.specs.Deserializer.{source_of}
use Rattle.postcard_de.proofs.Lists.{Going}
use Rattle.postcard_de.proofs.deserializer.Deserializer.array.Given as goal

abbrev pub invariant-loop-i : goal.invariant-loop-i
invariant-loop-i g l = let f = g.F.Flavor in let t = g.T.Shaped.shape in
    record {
      long : length l.items ≡ g.row.N;
      going : Going f.left f.able f.may_leave t.reads t.value t.other (source_of l.initial.self)
          g.row.N (take l.i l.items) (source_of l.self) (g.row.N - l.i);
    }
