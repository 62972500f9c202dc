-- The data up to the current place is taken, and no byte is taken after a refusal.
use Rattle.std.specs.Prelude.{IsTrue}
use Rattle.std.proofs.Common.{◌≡◌, ℕ, List, ◌≤◌, ◌-◌, ◌++◌, length, take}
use Rattle.postcard_ser_cobs.specs.Framing.{HoldsOpen, LeavesFrame}
use Rattle.postcard_ser_cobs.proofs.cobs.Cobs.push_pieces.Given as goal

abbrev pub invariant-loop-place : goal.invariant-loop-place
invariant-loop-place g l = record {
  stuck : IsTrue l.initial.self.failed → l.place ≡ 0;
  kept : IsTrue l.initial.self.failed → l.self.storage ≡ l.initial.self.storage;
  within : l.place ≤ length l.bytes;
  done : (before d : List ℕ) → HoldsOpen g.B.Storage.held l.initial.self.storage l.initial.self.start l.initial.self.encoder l.initial.self.failed before d → HoldsOpen g.B.Storage.held l.self.storage l.self.start l.self.encoder l.self.failed before (d ++ take l.place l.bytes);
  left : LeavesFrame g.B.Storage.held g.B.Storage.free g.B.Flavor.reaches l.initial.self.storage l.initial.self.failed l.self.storage l.self.failed;
}

abbrev pub decreases-loop-place : goal.decreases-loop-place
decreases-loop-place g l = length l.bytes - l.place
