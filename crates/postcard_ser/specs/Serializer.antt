-- What a call of a serializer does.
use Rattle.std.specs.Prelude.{List, ℕ, Result, OnOk}
use Rattle.postcard_wire.specs.Spelling.{canonical}
use Rattle.postcard_wire.specs.Tree.{Tree}
use Rattle.postcard_wire.specs.declared.error.Error.{Error}
use Rattle.postcard_shape.specs.Shape.{Shape, never}
use Rattle.postcard_ser_flavors.specs.declared.flavor.Flavor.{Ghosts}
use Rattle.postcard_ser.specs.Writing.{Wrote, encoding}
use Rattle.postcard_ser.specs.declared.serializer.Serializer.{Serializer}

-- A call that writes to the serializer s over a flavor with the ghosts F, returns r, and leaves s'.
module _ {S O : Type 0} (F : Ghosts S O) where
  -- It writes the bytes.
  abbrev pub SerializesBytes : List ℕ → Serializer S O → Result (Unit {0}) Error → Serializer S O → Type 0
  SerializesBytes bytes s r s' = Wrote F s.output bytes never ⊥ r s'.output

  -- It writes the encoding of the tree.
  abbrev pub SerializesTree : Tree → Serializer S O → Result (Unit {0}) Error → Serializer S O → Type 0
  SerializesTree tree s r s' = SerializesBytes (canonical tree) s r s'

  -- It writes the value v, which fits after a success.
  pub record Serializes {V : Type 0} (shape : Shape V) (v : V) (s : Serializer S O) (r : Result (Unit {0}) Error) (s' : Serializer S O) : Type 0 where
    pub wrote : Wrote F s.output (encoding shape v) (shape.refusal v) shape.text r s'.output
    pub fits : OnOk r (shape.fits v)
