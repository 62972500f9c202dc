-- `Pushed` and `Finalized` by the words of a flavor, for the clauses of each flavor and of the crates above, and
-- what the flavors of this crate promise beside them. They are not in `Flavor`, which the trait cites, since they
-- name the trait.
use Rattle.std.specs.Prelude.{◌≡◌, ℕ, ◌↔◌, List, Result, IsOk, IsOkUnless, OnErr}
use Rattle.postcard_wire.specs.declared.error.Error.{Error}
use Rattle.postcard_wire.specs.declared.error.Error.TheVariants.{SerializeBufferFull}
use Rattle.postcard_ser_flavors.specs.Flavor.{Pushed, Finalized}
use Rattle.postcard_ser_flavors.specs.declared.flavor.Flavor.{Ghosts}

-- The flavor F in state s was passed the bytes xs by a call that returned r and left t.
abbrev pub PushedBy : {S O T E : Type 0} → Ghosts S O → S → List ℕ → Result T E → S → Type 0
PushedBy F = Pushed F.appended F.room F.tidy F.reaches

-- The message of the flavor F in state s was ended by a call that returned r.
abbrev pub FinalizedBy : {S O E : Type 0} → Ghosts S O → S → Result O E → Type 0
FinalizedBy F = Finalized F.room F.finishes

-- Such a call that passed bytes is refused only with `SerializeBufferFull`.
pub record PushedOrFull {S O T : Type 0} (F : Ghosts S O) (s : S) (xs : List ℕ) (r : Result T Error) (t : S) : Type 0 where
  pub pushed : PushedBy F s xs r t
  pub refuses_by_buffer_full : IsOkUnless r SerializeBufferFull

-- Such a call that passed bytes is refused only with `SerializeBufferFull`, and the `content` of the flavor is
-- unchanged then.
pub record PushedWhole {S O T : Type 0} (F : Ghosts S O) (content : S → List ℕ) (s : S) (xs : List ℕ) (r : Result T Error) (t : S) : Type 0 where
  pub pushed : PushedBy F s xs r t
  pub refuses_by_buffer_full : IsOkUnless r SerializeBufferFull
  pub unchanged : OnErr r (content t ≡ content s)

-- Such a call that passed bytes succeeds if and only if there is room for them. It is refused only with
-- `SerializeBufferFull`, and the flavor is unchanged then.
pub record PushedIfRoom {S O T : Type 0} (F : Ghosts S O) (s : S) (xs : List ℕ) (r : Result T Error) (t : S) : Type 0 where
  pub pushed : PushedBy F s xs r t
  pub fits_iff : IsOk r ↔ F.room s xs
  pub refuses_by_buffer_full : IsOkUnless r SerializeBufferFull
  pub unchanged : OnErr r (t ≡ s)

-- Such a call that ended the message always succeeds.
pub record AlwaysFinalized {S O E : Type 0} (F : Ghosts S O) (s : S) (r : Result O E) : Type 0 where
  pub finalized : FinalizedBy F s r
  pub succeeds : IsOk r
