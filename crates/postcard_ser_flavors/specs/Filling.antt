-- What a call promises that appends to a slice that is filled.
use Rattle.std.specs.Prelude.{◌≡◌, ℕ, ◌≤◌, ◌↔◌, List, drop, length, Result, IsOk, IsOkUnless, OnOk, OnErr}
use Rattle.postcard_wire.specs.declared.error.Error.{Error}
use Rattle.postcard_wire.specs.declared.error.Error.TheVariants.{SerializeBufferFull}
use Rattle.postcard_ser_flavors.specs.Pushing.{PushedBy}
use Rattle.postcard_ser_flavors.specs.Slice.{Written, free}
use Rattle.postcard_ser_flavors.specs.declared.flavor.Flavor.{Ghosts}

-- The flavor F, whose state is a slice, in state s was passed the bytes xs by a call that returned r and left t. The
-- call succeeds if and only if as many bytes are free, and those after xs are unchanged. It is refused only with
-- `SerializeBufferFull`, and changes nothing then.
pub record PushedToSlice {O T : Type 0} (F : Ghosts Written O) (s : Written) (xs : List ℕ) (r : Result T Error) (t : Written) : Type 0 where
  pub pushed : PushedBy F s xs r t
  pub fits_iff : IsOk r ↔ (length xs ≤ length (free s))
  pub rest_unchanged : OnOk r (free t ≡ drop (length xs) (free s))
  pub refuses_by_buffer_full : IsOkUnless r SerializeBufferFull
  pub unchanged : OnErr r (t ≡ s)
