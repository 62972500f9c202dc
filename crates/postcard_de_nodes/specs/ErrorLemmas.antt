-- Which errors a reading call may return.
use Rattle.std.proofs.Common.{◌≡◌, ◌≢◌, subst}
use Rattle.postcard_wire.specs.declared.error.Error.{Error}
use Rattle.postcard_wire.specs.declared.error.Error.TheVariants.{DeserializeUnexpectedEnd}
use Rattle.postcard_wire.specs.declared.error.Error.TheVariants.{DeserializeBadVarint}
use Rattle.postcard_wire.specs.declared.error.Error.TheVariants.{DeserializeBadBool}
use Rattle.postcard_wire.specs.declared.error.Error.TheVariants.{DeserializeBadChar}
use Rattle.postcard_wire.specs.declared.error.Error.TheVariants.{DeserializeBadUtf8}
use Rattle.postcard_wire.specs.declared.error.Error.TheVariants.{DeserializeBadOption}
use Rattle.postcard_wire.specs.declared.error.Error.TheVariants.{DeserializeBadCrc}
use Rattle.postcard_wire.specs.declared.error.Error.TheVariants.{SerdeDeCustom, OutOfMemory}
use Rattle.postcard_wire.specs.declared.error.Error.TheVariants.{DeserializeBadEncoding}
use Rattle.postcard_shape.specs.Shape.{memory, or_memory}
use Rattle.postcard_de_nodes.specs.Reads.{IsReadError}

-- An error that may be returned under G may be returned under any H that G implies.
pub wider : {G H : Error → Type 0} → ((e : Error) → G e → H e) → (e : Error) → IsReadError G e
    → IsReadError H e
wider grow DeserializeUnexpectedEnd h = tt
wider grow DeserializeBadVarint h = tt
wider grow DeserializeBadBool h = tt
wider grow DeserializeBadChar h = tt
wider grow DeserializeBadUtf8 h = tt
wider grow DeserializeBadOption h = tt
wider grow SerdeDeCustom h = tt
wider grow DeserializeBadEncoding h = h
wider grow DeserializeBadCrc h = h
wider grow e h = grow e h

-- The errors of a set are among those of the set with `OutOfMemory`.
pub with_memory : (G : Error → Type 0) (e : Error) → G e → or_memory G e
with_memory G OutOfMemory h = tt
with_memory G e h = h

-- `OutOfMemory` alone is among the errors of a set with it.
pub only_memory : (G : Error → Type 0) (e : Error) → memory e → or_memory G e
only_memory G OutOfMemory h = tt
only_memory G e h = absurd h

-- `OutOfMemory` is returned only for a type that grows.
pub only_grown : (other : Error → Type 0) (e : Error) → IsReadError other e → e ≡ OutOfMemory
    → other OutOfMemory
only_grown other e names is = subst (IsReadError other) is names

-- No reading call returns `DeserializeBadEncoding`, the error of a bad frame.
pub not_encoding : (other : Error → Type 0) (e : Error) → IsReadError other e
    → e ≢ DeserializeBadEncoding
not_encoding other e names is = subst (IsReadError other) is names
