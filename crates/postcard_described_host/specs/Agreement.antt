-- What a device that has a type, and a host that has only its schema, return for the same bytes.
use Rattle.std.specs.Prelude.{◌≡◌, ℕ, List, Result, Ok, Err, MatchResult}
use Rattle.std.specs.Borrow.{Bor}
use Rattle.postcard_wire.specs.declared.error.Error.{Error}
use Rattle.postcard_wire.specs.declared.error.Error.TheVariants.{OutOfMemory}
use Rattle.postcard_wire.specs.Tree.{Tree}
use Rattle.postcard_shape.specs.Shape.{Grows, Shape, growing}
use Rattle.postcard_de.specs.Front.{TakesFromBytes}
use Rattle.postcard_schema.specs.Meaning.{MessageType}
use Rattle.postcard_value.specs.Shape.{shape_of}
use Rattle.postcard_value.specs.Tree.{tree}
use Rattle.postcard_value.specs.declared.value.Value.{Value}
use Rattle.postcard_described.specs.SameBytes.{SameBytes}

-- What reading some bytes returns: a value and the bytes after it, or an error.
abbrev pub Reading : Type 0 → Type 0
Reading V = Result (V × Bor (List ℕ)) Error

-- A host that has a schema of these messages returned this reading of the bytes. Its contract is that of a device whose type is
-- `Value`, allocates, and reads these messages.
abbrev pub HostTakes : MessageType → List ℕ → Reading Value → Type 0
HostTakes messages = TakesFromBytes (growing (shape_of messages))

-- The host read a value whose tree has the same encodings as this tree, and left the bytes `rest`; or it ran out of memory.
abbrev pub HostReads : Tree → List ℕ → Reading Value → Type 0
HostReads t rest host = MatchResult host (λ read. SameBytes t (tree read.0) × (read.1.now ≡ rest)) (λ e. e ≡ OutOfMemory)

-- The device and the host agree. If the device read a value, the host read a value of the same tree, and left the same bytes. If the
-- device refused the bytes, the host refused them. A reader that runs out of memory may refuse alone: the host for every type, and the
-- device only for a type that allocates.
abbrev pub Agree : {V : Type 0} → Shape V → Reading V → Reading Value → Type 0
Agree shape (Ok device) host = (t : Tree) × shape.value t device.0 × HostReads t device.1.now host
Agree shape (Err e) (Ok host) = (e ≡ OutOfMemory) × Grows shape
Agree shape (Err e) (Err f) = Unit {0}
