-- What a call promises that passes data to a flavor that writes a frame.
use Rattle.std.specs.Prelude.{◌≡◌, ℕ, List, Bool, IsTrue, Result, IsErrOf, IsOkUnless, OnErr}
use Rattle.postcard_wire.specs.declared.error.Error.{Error}
use Rattle.postcard_wire.specs.declared.error.Error.TheVariants.{SerializeBufferFull}
use Rattle.postcard_ser_flavors.specs.Pushing.{PushedBy}
use Rattle.postcard_ser_flavors.specs.declared.flavor.Flavor.{Ghosts}

-- The flavor F in state s was passed the bytes xs by a call that returned r and left t. If it had refused before
-- (`failed`), it refuses again and keeps its storage. It remembers a refusal, which is `SerializeBufferFull`.
pub record PushedToFrame {S O B T : Type 0} (F : Ghosts S O) (failed : S → Bool) (storage : S → B) (s : S) (xs : List ℕ) (r : Result T Error) (t : S) : Type 0 where
  pub pushed : PushedBy F s xs r t
  pub stays_refused : IsTrue (failed s) → IsErrOf r SerializeBufferFull
  pub storage_kept : IsTrue (failed s) → storage t ≡ storage s
  pub remembers_refusal : OnErr r (IsTrue (failed t))
  pub refuses_by_buffer_full : IsOkUnless r SerializeBufferFull
