-- Each of the bytes so far may be part of a number.
use Rattle.std.proofs.Common.{◌≡◌, ℕ, true, ◌-◌, ◌<◌, ◌≤◌, length, get_or}
use Rattle.postcard_value_text.specs.Floats.{is_of_float}
use Rattle.postcard_value_text.proofs.float.take_number.Given as goal

abbrev pub invariant-bytes : goal.invariant-bytes
invariant-bytes l = (l.count ≤ length l.all) × ((i : ℕ) → i < l.count → is_of_float (get_or l.all i 0) ≡ true)

abbrev pub decreases-bytes : goal.decreases-bytes
decreases-bytes l = length l.all - l.count
