-- The outcome of a call that passes bytes to a flavor.
use Rattle.std.specs.Prelude.{◌≡◌, ◌⊎◌, ◌↔◌, ℕ, List, Result, IsOk, OnOk, OnErr, IfOk, IfErr}
use Rattle.postcard_ser_flavors.specs.Flavor.{AppendsFront}
use Rattle.postcard_ser_flavors.specs.declared.flavor.Flavor.{Ghosts}
use Rattle.postcard_shape.specs.Rows.{Row}
use Rattle.postcard_shape.specs.Shape.{Shape, IsEmpty, IsWilling}
pub use Rattle.postcard_shape.specs.Shape.{never}
use Rattle.postcard_wire.specs.Spelling.{canonical, canonical_all}
use Rattle.postcard_wire.specs.declared.error.Error.{Error}
use Rattle.postcard_wire.specs.declared.error.Error.TheVariants.{SerializeBufferFull, CollectStrError}

-- The error of a call whose flavor refused a piece. If `text` holds, it may also be that of a printed text: a piece was refused, or
-- printing failed (behaviour of postcard 1.1.3).
abbrev pub IsWriteError : Type 0 → Error → Type 0
IsWriteError text e = (e ≡ SerializeBufferFull) ⊎ (text × (e ≡ CollectStrError))

-- The error of a call that writes the value v: that of a refused piece, or one by which v refuses
-- itself.
abbrev pub IsErrorOf : {V : Type 0} → Shape V → V → Error → Type 0
IsErrorOf s v e = IsWriteError s.text e ⊎ s.refusal v e

-- A call that passes the bytes xs to the flavor s returned r and left the flavor t. After a success, just xs is appended. If s has room for
-- xs, an error is one of `refusal`, with which the value refuses itself. Without room it may also be the error of a refused piece. If the
-- value doesn't refuse itself and the flavor is tidy, an error leaves a prefix of xs appended. Whatever the result, pushes can lead from s
-- to t.
pub record Wrote {S O : Type 0} (F : Ghosts S O) (s : S) (xs : List ℕ) (refusal : Error → Type 0) (text : Type 0) (r : Result (Unit {0}) Error) (t : S) : Type 0 where
  pub appends : OnOk r (F.appended s xs t)
  pub has_room : F.room s xs → IfErr r refusal
  pub named_error : IfErr r (λ e. IsWriteError text e ⊎ refusal e)
  pub refused : IsEmpty refusal → F.tidy → OnErr r (AppendsFront F.appended s xs t)
  pub leaves : F.reaches s t

-- The encoding of the value v.
abbrev pub encoding : {V : Type 0} → Shape V → V → List ℕ
encoding s v = canonical (s.tree v)

-- A call that encodes the value v returned r, of which `says` holds after a success. If the value doesn't refuse itself, it succeeds if and
-- only if `room` holds. With room an error is one by which the value refuses itself. After a success the value fits.
pub record Encodes {V R : Type 0} (s : Shape V) (v : V) (says : R → Type 0) (room : Type 0) (r : Result R Error) : Type 0 where
  pub gives : IfOk r says
  pub fits_iff : IsWilling s v → (IsOk r ↔ room)
  pub own_error : room → IfErr r (s.refusal v)
  pub named_error : IfErr r (IsErrorOf s v)
  pub fits : OnOk r (s.fits v)

-- The same for a call that allocates, which may run out of memory.
pub record EncodesGrowing {V R : Type 0} (s : Shape V) (v : V) (says : R → Type 0) (r : Result R Error) : Type 0 where
  pub gives : IfOk r says
  pub named_error : IfErr r (IsErrorOf s v)
  pub fits : OnOk r (s.fits v)

-- A call that writes the parts v of a row one after the other returned r and left the flavor t.
abbrev pub WroteRow : {S O V : Type 0} → Ghosts S O → S → Row V → V → Result (Unit {0}) Error → S → Type 0
WroteRow F s row v r t = Wrote F s (canonical_all (row.trees v)) (row.refusal v) row.text r t

-- Such a call, after whose success the parts fit.
pub record WritesRow {S O V : Type 0} (F : Ghosts S O) (s : S) (row : Row V) (v : V) (r : Result (Unit {0}) Error) (t : S) : Type 0 where
  pub wrote : WroteRow F s row v r t
  pub fits : OnOk r (row.fits v)

-- A part of a row, followed by the others.
abbrev pub part : {A B : Type 0} → A → B → A × B
part first others = (first, others)
