-- What a storage holds after the encoder's result for a byte was carried out.
use Rattle.std.specs.Prelude.{ℕ, ◌+◌, ◌<◌, List, [], ◌∷◌, ◌++◌, slice_set}
use Rattle.postcard_cobs.specs.declared.encode.PushResult.{PushResult}
use Rattle.postcard_cobs.specs.declared.encode.PushResult.TheVariants.{AddSingle, ModifyFromStartAndSkip, ModifyFromStartAndPushAndSkip}

-- The number of bytes that the result adds.
abbrev pub growth : PushResult → ℕ
growth (AddSingle b) = 1
growth (ModifyFromStartAndSkip p) = 1
growth (ModifyFromStartAndPushAndSkip p) = 2

-- The place that the result sets, if it sets one, is below n, counted from the start of the
-- storage.
abbrev pub SetsBelow : ℕ → ℕ → PushResult → Type 0
SetsBelow start n (AddSingle b) = Unit {0}
SetsBelow start n (ModifyFromStartAndSkip p) = start + p.0 < n
SetsBelow start n (ModifyFromStartAndPushAndSkip p) = start + p.0 < n

-- The list L changed as the result says, with places counted from `start`. A place for a code byte
-- is a zero here.
abbrev pub changed_from : ℕ → List ℕ → PushResult → List ℕ
changed_from start L (AddSingle b) = L ++ b ∷ []
changed_from start L (ModifyFromStartAndSkip p) = slice_set L (start + p.0) p.1 ++ 0 ∷ []
changed_from start L (ModifyFromStartAndPushAndSkip p) = slice_set L (start + p.0) p.1 ++ p.2 ∷ 0 ∷ []
