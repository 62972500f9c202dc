-- If the text is a line and more text, what is left is the end of that line and the same text. Each turn drops a byte.
use Rattle.std.proofs.Common.{◌≡◌, ℕ, List, ◌∷◌, ◌++◌, length}
use Rattle.postcard_value_json_read.specs.Lines.{IsLine}
use Rattle.postcard_value_json_read.proofs.place.after_line.Given as goal

abbrev pub invariant-bytes : goal.invariant-bytes
invariant-bytes l = (line : List ℕ) (rest : List ℕ) → IsLine line → l.fn.text ≡ line ++ 10 ∷ rest → (more : List ℕ) × IsLine more × (l.left ≡ more ++ 10 ∷ rest)

abbrev pub decreases-bytes : goal.decreases-bytes
decreases-bytes l = length l.left
