-- The invariant of the loop that fills a buffer piece by piece. Each turn fills more of it.
use Rattle.std.proofs.Common.{◌≡◌, ◌-◌, ◌≤◌, ◌++◌, length, take}
use Rattle.test_support.proofs.devices.readers.PiecesReader.read_full.Given as goal

-- The bytes of the reader are those before the place in the buffer, and then those that are left.
abbrev pub invariant-loop-at : goal.invariant-loop-at
invariant-loop-at l = (length l.buf ≡ length l.initial.buf) × (l.at ≤ length l.buf) × (l.fn.self.bytes.now ≡ take l.at l.buf ++ l.self.bytes.now)

abbrev pub decreases-loop-at : goal.decreases-loop-at
decreases-loop-at l = length l.initial.buf - l.at
