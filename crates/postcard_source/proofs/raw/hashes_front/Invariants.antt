-- The bytes so far are `#`.
use Rattle.std.proofs.Common.{◌≡◌, ℕ, ◌-◌, ◌<◌, ◌≤◌, true, length, get_or}
use Rattle.postcard_source.specs.Raw.{is_hash}
use Rattle.postcard_source.proofs.raw.hashes_front.Given as goal

abbrev pub invariant-hashes : goal.invariant-hashes
invariant-hashes l = (l.count ≤ length l.text) × ((i : ℕ) → i < l.count → is_hash (get_or l.text i 0) ≡ true)

abbrev pub decreases-hashes : goal.decreases-hashes
decreases-hashes l = length l.text - l.count
