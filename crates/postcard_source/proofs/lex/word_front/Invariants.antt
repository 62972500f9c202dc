-- The bytes so far may be part of a word.
use Rattle.std.proofs.Common.{◌≡◌, ℕ, ◌-◌, ◌<◌, ◌≤◌, true, length, get_or}
use Rattle.postcard_source.specs.Tokens.{is_of_word}
use Rattle.postcard_source.proofs.lex.word_front.Given as goal

abbrev pub invariant-letters : goal.invariant-letters
invariant-letters l = (l.count ≤ length l.text) × ((i : ℕ) → i < l.count → is_of_word (get_or l.text i 0) ≡ true)

abbrev pub decreases-letters : goal.decreases-letters
decreases-letters l = length l.text - l.count
