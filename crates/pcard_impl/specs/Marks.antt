-- The marks of a file, and what stands outside of them.
use Rattle.std.specs.Prelude.{◌≡◌, ◌⊎◌, ℕ, None, List, [], ◌++◌}
use Rattle.std.specs.Str.Pattern.{FindsText, SplitsAroundMatch}

-- The mark stands in the text, first after `before`. The text `after` follows it.
abbrev pub IsAround : List ℕ → List ℕ → List ℕ → List ℕ → Type 0
IsAround mark text before after = SplitsAroundMatch (FindsText mark) text before after

-- The mark stands nowhere in the text.
abbrev pub Lacks : List ℕ → List ℕ → Type 0
Lacks mark text = FindsText mark text None

-- The text of a file outside of its marks: the one before the first mark, and the one after the second. Each mark is the first that stands
-- there. Of a file with neither, these are the whole text and nothing.
abbrev pub IsOutside : List ℕ → List ℕ → List ℕ → List ℕ → List ℕ → Type 0
IsOutside first second file before after =
    ((inside : List ℕ) × (rest : List ℕ) × IsAround first file before rest × IsAround second rest inside after)
    ⊎ (Lacks first file × Lacks second file × (before ≡ file) × (after ≡ []))

-- The first mark is in the file, and no second mark is after it.
abbrev pub IsOpen : List ℕ → List ℕ → List ℕ → Type 0
IsOpen first second file = (before : List ℕ) × (rest : List ℕ) × IsAround first file before rest × Lacks second rest

-- The second mark stands in the file, and the first one doesn't.
abbrev pub IsAlone : List ℕ → List ℕ → List ℕ → Type 0
IsAlone first second file = (before : List ℕ) × (after : List ℕ) × Lacks first file × IsAround second file before after

-- A file with this text between its marks.
abbrev pub marked : List ℕ → List ℕ → List ℕ → List ℕ → List ℕ → List ℕ
marked first second before text after = (((before ++ first) ++ text) ++ second) ++ after

-- The second file is the first one with a text between its marks: outside of them it has what that has, and so has what is written again.
abbrev pub IsMarked : List ℕ → List ℕ → List ℕ → List ℕ → Type 0
IsMarked first second file written =
    (before : List ℕ) × (text : List ℕ) × (after : List ℕ) × IsOutside first second file before after
    × (written ≡ marked first second before text after) × IsOutside first second written before after
