-- No letter so far is a new line, the byte 10.
use Rattle.std.proofs.Common.{◌≡◌, ℕ, ◌-◌, ◌<◌, ◌≤◌, length, get_or}
use Rattle.postcard_source.proofs.lex.after_line_comment.Given as goal

abbrev pub invariant-letters : goal.invariant-letters
invariant-letters l = (l.count ≤ length l.line) × ((i : ℕ) → i < l.count → get_or l.line i 0 ≡ 10 → ⊥)

abbrev pub decreases-letters : goal.decreases-letters
decreases-letters l = length l.line - l.count
