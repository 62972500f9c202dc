-- Lines of a text.
use Rattle.std.specs.Prelude.{◌≡◌, ℕ, zero, suc, List, [], ◌∷◌, ◌++◌}

-- No byte is a line feed.
abbrev pub IsLine : List ℕ → Type 0
IsLine [] = Unit {0}
IsLine (b ∷ bs) = (b ≡ 10 → ⊥) × IsLine bs

-- The text is this number of lines, each with its line feed.
abbrev pub AreLines : ℕ → List ℕ → Type 0
AreLines zero text = text ≡ []
AreLines (suc n) text = (line : List ℕ) × (rest : List ℕ) × IsLine line × (text ≡ line ++ 10 ∷ rest) × AreLines n rest
