-- What a state says of the accumulator's fields.
use Rattle.std.proofs.Common.{◌≡◌, ℕ, List, refl, ap, ◌∙◌, Bool, true, false}
use Rattle.std.specs.Prelude.{IsTrue}
use Rattle.postcard_accumulator.specs.State.{State, state_of, held_of, is_skipping}

-- If no frame is being skipped, the flag is false and the bytes held are those of the state.
pub not_skipping : (b : Bool) (l : List ℕ) (c : State) → state_of b l ≡ c → is_skipping c ≡ false
    → (b ≡ false) × (l ≡ held_of c)
not_skipping false l c e f = (refl, ap held_of e)
not_skipping true l c e f = let t : true ≡ false = ap is_skipping e ∙ f in cc

-- A flag that is false isn't true.
pub never : (b : Bool) (A : Type 0) → b ≡ false → IsTrue b → A
never false A e t = let x : false ≡ true = t in cc
never true A e t = cc
