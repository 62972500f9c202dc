-- Each of the bytes so far may be part of a word.
use Rattle.std.proofs.Common.{◌≡◌, ℕ, true, ◌-◌, ◌<◌, ◌≤◌, length, get_or}
use Rattle.postcard_schema_text.specs.Text.{is_of_word}
use Rattle.postcard_schema_text.proofs.scan.take_word.Given as goal

abbrev pub invariant-letters : goal.invariant-letters
invariant-letters l = (l.count ≤ length l.all) × ((i : ℕ) → i < l.count → is_of_word (get_or l.all i 0) ≡ true)

abbrev pub decreases-letters : goal.decreases-letters
decreases-letters l = length l.all - l.count
