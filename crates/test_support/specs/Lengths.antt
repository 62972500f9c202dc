-- The lengths of the pieces of a reader.
use Rattle.std.specs.Prelude.{ℕ, List, length, max, nat_lt, slice_index_or, if◌then◌else◌}

-- The index of the length at a place: the place, or 0 if it is past the last length.
abbrev pub turn : List ℕ → ℕ → ℕ
turn lengths place = if nat_lt place (length lengths) then place else 0

-- The greatest number of bytes of the piece at a place. It is at least 1, also if there are no lengths.
abbrev pub piece_length : List ℕ → ℕ → ℕ
piece_length lengths place = max 1 (slice_index_or lengths (turn lengths place) 1)
