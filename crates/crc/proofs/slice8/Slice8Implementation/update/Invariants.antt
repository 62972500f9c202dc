-- The bytes before the rest have been taken.
use Rattle.std.proofs.Common.{◌≡◌, ◌*◌, ℕ, List, ◌++◌, length}
use Rattle.crc.specs.Algorithm.{parameters}
use Rattle.crc.specs.Register.{Holds}
use Rattle.crc.proofs.slice8.Slice8Implementation.update.Given as goal

abbrev pub invariant-loop-rest : goal.invariant-loop-rest
invariant-loop-rest g l = record {
  taken : List ℕ;
  cut : l.bytes ≡ taken ++ l.rest;
  holds : (i : ℕ) (m : List ℕ)
      → Holds (8 * g.W.Width.size) (record (parameters g.W.Width.number l.algorithm) { init = i }) (g.W.Width.number l.initial.register) m
      → Holds (8 * g.W.Width.size) (record (parameters g.W.Width.number l.algorithm) { init = i }) (g.W.Width.number l.register) (m ++ taken);
}

abbrev pub decreases-loop-rest : goal.decreases-loop-rest
decreases-loop-rest g l = length l.rest
