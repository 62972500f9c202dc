-- The entries of the last k bytes.
use Rattle.std.proofs.Common.{◌*◌, ◌-◌, ◌^◌, ◌<◌, map, drop}
use Rattle.crc.specs.Crc.{Parameters, IsValid}
use Rattle.crc.specs.Register.{AreEntries, IsSumFor}
use Rattle.crc.proofs.slice8.pick.Given as goal

abbrev pub invariant-loop-k : goal.invariant-loop-k
invariant-loop-k g l = record {
  is : (a : Parameters) → IsValid (8 * g.W.Width.size) a → AreEntries (8 * g.W.Width.size) a 2048 (map g.W.Width.number l.entries)
      → IsSumFor (8 * g.W.Width.size) a (drop (8 - l.k) l.bytes) l.sum;
  fits : l.sum < 2 ^ (8 * g.W.Width.size);
}
