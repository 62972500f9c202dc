-- The bytes before the current place are appended, by pushes.
use Rattle.std.proofs.Common.{take}
use Rattle.postcard_ser_flavors.proofs.flavor.Flavor.try_extend.Given as goal

abbrev pub invariant-loop-byte : goal.invariant-loop-byte
invariant-loop-byte g l = record {
  done : g.Self.Flavor.appended l.initial.self (take l.byte-index l.bytes) l.self;
  left : g.Self.Flavor.reaches l.initial.self l.self;
}
