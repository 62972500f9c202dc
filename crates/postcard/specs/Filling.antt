-- The result of a call that encodes a value into the first bytes of a buffer, and the buffer after it.
use Rattle.std.specs.Prelude.{◌≡◌, ◌≤◌, ◌↔◌, ℕ, List, length, Result, IsOk, OnOk, OnErr, IfOk, IfErr}
use Rattle.postcard_shape.specs.Shape.{Shape, IsWilling}
use Rattle.postcard_ser.specs.Writing.{IsErrorOf, encoding}
use Rattle.postcard_wire.specs.declared.error.Error.{Error}
use Rattle.postcard.specs.Buffers.{Fills, FillsFront}

-- A call that encodes v into a buffer with the bytes `old` returned r and left the bytes `new`. A success returns the number of bytes of
-- the encoding. The buffer begins with the encoding, and has the old bytes after it. If the value doesn't refuse itself, the call succeeds
-- if and only if the encoding fits. After a failure the buffer has a prefix of the encoding, and the old bytes after that.
pub record FillsSlice {V : Type 0} (s : Shape V) (v : V) (old : List ℕ) (r : Result ℕ Error) (new : List ℕ) : Type 0 where
  pub count_is_length : IfOk r (λ count. count ≡ length (encoding s v))
  pub fills : OnOk r (Fills (encoding s v) old new)
  pub refused : OnErr r (IsWilling s v → FillsFront (encoding s v) old new)
  pub fits_iff : IsWilling s v → (IsOk r ↔ (length (encoding s v) ≤ length old))
  pub own_error : length (encoding s v) ≤ length old → IfErr r (s.refusal v)
  pub named_error : IfErr r (IsErrorOf s v)
  pub fits : OnOk r (s.fits v)
