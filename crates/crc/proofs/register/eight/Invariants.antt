-- As many powers of x as rounds.
use Rattle.std.proofs.Common.{◌≡◌}
use Rattle.crc.specs.Register.{rounds}
use Rattle.crc.proofs.register.eight.Given as goal

abbrev pub invariant-loop-k : goal.invariant-loop-k
invariant-loop-k l = l.register ≡ rounds l.refin l.bits l.feedback l.k l.start
