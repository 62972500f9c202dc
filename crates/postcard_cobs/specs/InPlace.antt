-- What decoding in place leaves in a buffer.
use Rattle.std.specs.Prelude.{◌≡◌, ℕ, List, ◌++◌, length, drop}
use Rattle.postcard_cobs.specs.Groups.{Groups, before_zero}

-- The frame at the front of the old buffer has data of n bytes, and the new buffer is the old one
-- with that data written over its front.
abbrev pub LeavesData : List ℕ → List ℕ → ℕ → Type 0
LeavesData old new n =
    (d : List ℕ) × Groups (before_zero old) d × (n ≡ length d) × (new ≡ d ++ drop (length d) old)
