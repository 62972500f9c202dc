-- As many powers of x as rounds.
use Rattle.std.proofs.Common.{◌≡◌, true}
use Rattle.crc.specs.Register.{rounds}
use Rattle.postcard_c.proofs.checksum.eight.Given as goal

abbrev pub invariant-loop-k : goal.invariant-loop-k
invariant-loop-k l = l.register ≡ rounds true 32 l.generator l.k l.start
