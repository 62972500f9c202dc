-- The invariant of the loop that fills a buffer byte by byte.
use Rattle.std.proofs.Common.{◌≡◌, ◌++◌, take}
use Rattle.test_layers.proofs.reading_flavors.OneByteReader.read_full.Given as goal

-- The bytes at the call are the first `at` bytes of `buf`, and then those left.
abbrev pub invariant-loop-at : goal.invariant-loop-at
invariant-loop-at l = l.fn.self.bytes.now ≡ take l.at l.buf ++ l.self.bytes.now
