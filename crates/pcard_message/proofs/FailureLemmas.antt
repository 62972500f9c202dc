-- How the path of a part is printed in a failure.
use Rattle.std.proofs.Common.{◌≡◌, append_assoc, List, ℕ, [], ◌∷◌, ◌++◌, length, false}
use Rattle.std.specs.Prelude.{codes, ◌==◌}
use Rattle.pcard_print.specs.Lines.{place_text}

-- If the path isn't empty, its text is the path and `: `.
pub place_then : (path rest : List ℕ) → (length path == 0) ≡ false → place_text path ++ rest ≡ path ++ (codes ": " ++ rest)
place_then [] rest filled = cc filled
place_then (b ∷ path) rest filled = append_assoc (b ∷ path) (codes ": ") rest
