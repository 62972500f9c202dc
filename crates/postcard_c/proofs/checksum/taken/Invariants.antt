-- The bytes before the index have been taken.
use Rattle.std.proofs.Common.{ℕ, List, ◌++◌, take}
use Rattle.crc.specs.Crc.{Parameters}
use Rattle.crc.specs.Register.{Holds}
use Rattle.postcard_c.specs.Checksums.{Reflects}
use Rattle.postcard_c.proofs.checksum.taken.Given as goal

abbrev pub invariant-loop-byte : goal.invariant-loop-byte
invariant-loop-byte l =
    (a : Parameters) (added : ℕ) (m : List ℕ) → Reflects a l.generator added
    → Holds 32 a l.initial.register m → Holds 32 a l.register (m ++ take l.byte-index l.bytes)
