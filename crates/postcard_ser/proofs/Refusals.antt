-- Calls whose error can only be one by which a value refuses itself.
use Rattle.std.proofs.Common.{Result, Ok, Err, IfErr, refl}
use Rattle.std.specs.Result.{IsOk}
use Rattle.postcard_shape.specs.Shape.{IsEmpty}
use Rattle.postcard_wire.specs.declared.error.Error.{Error}

-- A call that succeeds returns no error.
pub no_error : {T : Type 0} (errors : Error → Type 0) (r : Result T Error) → IsOk r → IfErr r errors
no_error errors (Ok x) ok = tt
no_error errors (Err e) ok = absurd (cc)

-- A call whose error could only be one of none succeeds.
pub succeeds : {T : Type 0} {errors : Error → Type 0} (r : Result T Error) → IsEmpty errors → IfErr r errors → IsOk r
succeeds (Ok x) n h = refl
succeeds (Err e) n h = absurd (n.has_none e h)
