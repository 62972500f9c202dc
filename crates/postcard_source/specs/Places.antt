-- Lines and columns of a file.
use Rattle.std.specs.Prelude.{◌≡◌, ◌≢◌, ℕ, ◌+◌, ◌-◌, ◌≤◌, ◌<◌, ◌==◌, ◌⊎◌, List, take, drop, length, slice_index, count_by}
use Rattle.postcard_schema_text.specs.Text.{characters}

-- The line of index k begins at `start`: a new line (the byte 10) or nothing is before `start`, and none is from there up to k.
abbrev pub IsLineStart : List ℕ → ℕ → ℕ → Type 0
IsLineStart file start k = (start ≤ k)
    × ((start ≡ 0) ⊎ ((i : ℕ) × (start ≡ i + 1) × (slice_index file i ≡ 10)))
    × ((i : ℕ) → start ≤ i → i < k → slice_index file i ≢ 10)

-- The line and the column of index k, each counted from 1. The column counts characters.
abbrev pub IsPlace : List ℕ → ℕ → ℕ → ℕ → Type 0
IsPlace file k line column = (k ≤ length file) × (line ≡ count_by (λ b. b == 10) (take k file) + 1)
    × ((start : ℕ) × IsLineStart file start k × (column ≡ characters (take (k - start) (drop start file)) + 1))
