-- What the buffer of a frame holds once the frame at its front was decoded in place.
use Rattle.std.specs.Prelude.{◌≡◌, ◌<◌, ℕ, List, ◌++◌, length, take, drop}
use Rattle.postcard_cobs.specs.Groups.{Groups, before_zero}
use Rattle.postcard_frame.specs.Frame.{HasNoData}

-- The bytes of a buffer from its first zero on.
abbrev pub from_zero : List ℕ → List ℕ
from_zero buffer = drop (length (before_zero buffer)) buffer

-- No byte from the first zero on has changed: the buffer is as many bytes as were before that zero,
-- and then the old bytes.
abbrev pub KeepsFromZero : List ℕ → List ℕ → Type 0
KeepsFromZero old new =
    (frame : List ℕ) × (length frame ≡ length (before_zero old)) × (new ≡ frame ++ from_zero old)

-- The same, but after the first zero is `rest`. If there is no zero, `rest` is all that follows.
abbrev pub KeepsZero : List ℕ → List ℕ → List ℕ → Type 0
KeepsZero old rest new =
    (frame : List ℕ) × (length frame ≡ length (before_zero old))
    × (new ≡ frame ++ take 1 (from_zero old) ++ rest)

-- The first n of the bytes are the data of the frame; there are no bytes if the frame has no data.
abbrev pub HasDataOf : List ℕ → List ℕ → ℕ → Type 0
HasDataOf frame bytes n =
    (length bytes ≡ 0 → HasNoData frame) × (0 < length bytes → Groups frame (take n bytes))
