-- The bytes before the index have been taken.
use Rattle.std.proofs.Common.{◌*◌, ℕ, List, ◌++◌, take}
use Rattle.crc.specs.Algorithm.{parameters}
use Rattle.crc.specs.Register.{Holds}
use Rattle.crc.proofs.table.by_bytes.Given as goal

abbrev pub invariant-loop-byte : goal.invariant-loop-byte
invariant-loop-byte g l =
    (i : ℕ) (m : List ℕ) → Holds (8 * g.W.Width.size) (record (parameters g.W.Width.number l.algorithm) { init = i }) (g.W.Width.number l.initial.register) m
    → Holds (8 * g.W.Width.size) (record (parameters g.W.Width.number l.algorithm) { init = i }) (g.W.Width.number l.register) (m ++ take l.byte-index l.bytes)
