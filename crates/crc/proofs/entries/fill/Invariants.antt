-- The places before j have their entries.
use Rattle.std.proofs.Common.{◌*◌, map}
use Rattle.crc.specs.Algorithm.{parameters}
use Rattle.crc.specs.Register.{AreEntries}
use Rattle.crc.proofs.entries.fill.Given as goal

abbrev pub invariant-loop-j : goal.invariant-loop-j
invariant-loop-j g l = AreEntries (8 * g.W.Width.size) (parameters g.W.Width.number l.algorithm) l.j (map g.W.Width.number l.entries)
