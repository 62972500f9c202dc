-- No byte from `start` up to `end` is a new line, the byte 10.
use Rattle.std.proofs.Common.{ℕ, ◌≤◌, ◌<◌}
use Rattle.std.specs.Prelude.{◌≢◌, slice_index}
use Rattle.postcard_source.proofs.place.line_start.Given as goal

abbrev pub invariant-back : goal.invariant-back
invariant-back l = (l.start ≤ l.end) × ((i : ℕ) → l.start ≤ i → i < l.end → slice_index l.file i ≢ 10)

abbrev pub decreases-back : goal.decreases-back
decreases-back l = l.start
