-- If the text is lines and more text, what is left is the lines not dropped yet and the same text.
use Rattle.std.proofs.Common.{◌≡◌, ℕ, List, ◌++◌, ◌-◌}
use Rattle.postcard_value_json_read.specs.Lines.{AreLines}
use Rattle.postcard_value_json_read.proofs.place.from_line.Given as goal

abbrev pub invariant-loop : goal.invariant-loop
invariant-loop l = (lines : List ℕ) (rest : List ℕ) → AreLines (l.fn.line - 1) lines → l.fn.text ≡ lines ++ rest → (more : List ℕ) × AreLines (l.line - l.counter) more × (l.rest ≡ more ++ rest)
