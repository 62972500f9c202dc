-- What an accumulator carries from one call to the next.
use Rattle.std.specs.Prelude.{ℕ, List, Bool, true, false, []}

-- An accumulator holds the bytes so far of a frame that hasn't ended yet, or is skipping an
-- oversized frame.
pub data State : Type 0 where
  holding : List ℕ → State
  skipping : State

abbrev pub state_of : Bool → List ℕ → State
state_of true held = skipping
state_of false held = holding held

abbrev pub is_skipping : State → Bool
is_skipping (holding h) = false
is_skipping skipping = true

-- The bytes held: none while a frame is being skipped.
abbrev pub held_of : State → List ℕ
held_of (holding h) = h
held_of skipping = []
