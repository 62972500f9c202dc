-- The bytes before the current one were read, and no more was taken.
use Rattle.std.proofs.Common.{◌≡◌, ◌-◌, length, take}
use Rattle.postcard_wire.specs.Tree.{Byte}
use Rattle.postcard_wire.specs.Reading.{IsByte}
use Rattle.postcard_shape.specs.Shape.{never}
use Rattle.postcard_de.specs.Deserializer.{source_of}
use Rattle.postcard_de.proofs.Lists.{Going}
use Rattle.postcard_fixint.proofs.Bytewise.{Took}
use Rattle.postcard_fixint.proofs.array.ArrayU8ByteArray.read.Given as goal

abbrev pub invariant-loop-i : goal.invariant-loop-i
invariant-loop-i g l = let f = g.F.Flavor in
    record {
      long : length l.bytes ≡ g.row.N;
      going : Going f.left f.able f.may_leave IsByte (λ t v. t ≡ Byte v) never
          (source_of l.initial.d) g.row.N (take l.i l.bytes) (source_of l.d) (g.row.N - l.i);
      took : Took f.left f.able (source_of l.initial.d) l.i (source_of l.d);
    }
