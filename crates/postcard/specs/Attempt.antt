-- The outcome of an attempt to write into a buffer, and the result that is made of it.
use Rattle.std.specs.Prelude.{◌≡◌, ◌≤◌, ◌↔◌, ℕ, List, length, take, true, false, Result, IfOk, IfErr, IsOk}
use Rattle.std.specs.Borrow.{MutBor}
use Rattle.postcard_wire.specs.declared.error.Error.{Error}
use Rattle.postcard_shape.specs.Shape.{Shape, IsWilling}
use Rattle.postcard_ser.specs.Writing.{IsErrorOf}
use Rattle.postcard.specs.declared.ser.Attempt.{Attempt}
use Rattle.postcard.specs.Buffers.{Fills}

-- The outcome of an attempt to write the value v as the bytes xs over the first bytes of the old bytes. If it failed, and the value doesn't
-- refuse itself, `left` says what the buffer holds.
pub record IsAttempt {V : Type 0} (s : Shape V) (v : V) (xs : List ℕ) (left : List ℕ → Type 0) (old : List ℕ) (d : Attempt) : Type 0 where
  pub within : d.count ≤ length d.all.now
  pub written : d.failed ≡ false → (d.count ≡ length xs) × Fills xs old d.all.now
  pub refused : d.failed ≡ true → IsWilling s v → left d.all.now
  pub fits_iff : IsWilling s v → (d.failed ≡ false) ↔ (length xs ≤ length old)
  pub own_error : length xs ≤ length old → d.failed ≡ true → s.refusal v d.error
  pub named_error : d.failed ≡ true → IsErrorOf s v d.error
  pub fitting : d.failed ≡ false → s.fits v

-- The result is the slice of the bytes that were written, or the error of the attempt.
pub record LendsAttempt (d : Attempt) (r : Result (MutBor (List ℕ)) Error) : Type 0 where
  pub front : IfOk r (λ x. x.now ≡ take d.count d.all.now)
  pub sorts : IsOk r ↔ (d.failed ≡ false)
  pub error : IfErr r (λ e. e ≡ d.error)
