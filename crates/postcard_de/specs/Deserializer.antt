-- What contracts see of a deserializer: its source, and what a call does that reads from it.
use Rattle.std.specs.Prelude.{◌≡◌, ℕ, ◌-◌, ◌<◌, Option, None, Result, Ok, Err, IsOk}
use Rattle.postcard_wire.specs.Spelling.{Spells, SpellsAll}
use Rattle.postcard_wire.specs.Tree.{Tree}
use Rattle.postcard_wire.specs.declared.error.Error.{Error}
use Rattle.postcard_wire.specs.declared.error.Error.TheVariants.{WontImplement}
use Rattle.postcard_shape.specs.Cases.{Cases}
use Rattle.postcard_shape.specs.Options.{SomeIs}
use Rattle.postcard_shape.specs.Rows.{Row}
use Rattle.postcard_shape.specs.Shape.{Shape}
use Rattle.postcard_de_flavors.specs.declared.flavor.Flavor.{Ghosts}
use Rattle.postcard_de_nodes.specs.Nodes.{Node, ReadsNode, ReadsOption, ReadsResult}
use Rattle.postcard_de_nodes.specs.Reads.{Reads, ReadsShape}
use Rattle.postcard_de.specs.declared.deserializer.Deserializer.{Deserializer}

-- The source that a deserializer reads from.
abbrev pub source_of : {F R S : Type 0} → Deserializer F R S → F
source_of d = d.flavor

-- A call that reads from the deserializer d over a source of a flavor with the ghosts F, returns r, and leaves d'.
module _ {S M O : Type 0} (F : Ghosts S M O) where
  -- It reads a value of that shape.
  abbrev pub Deserializes : {V : Type 0} → Shape V → Deserializer S M O → Result V Error → Deserializer S M O → Type 0
  Deserializes shape d r d' = ReadsShape F shape (source_of d) r (source_of d')

  -- It reads a node of that kind, and fails for exactly the node's reasons.
  abbrev pub DeserializesNode : {X V : Type 0} → Node X V → Deserializer S M O → Result V Error → Deserializer S M O → Type 0
  DeserializesNode node d r d' = ReadsNode F node (source_of d) r (source_of d')

  -- It reads an option of what has that shape, and fails for exactly the reasons of one.
  abbrev pub DeserializesOption : {V : Type 0} → Shape V → Deserializer S M O → Result (Option V) Error → Deserializer S M O → Type 0
  DeserializesOption content d r d' = ReadsOption F content (source_of d) r (source_of d')

  -- It reads a result of what has these shapes, and fails for exactly the reasons of one.
  abbrev pub DeserializesResult : {V W : Type 0} → Shape V → Shape W → Deserializer S M O → Result (Result V W) Error → Deserializer S M O → Type 0
  DeserializesResult good bad d r d' = ReadsResult F good bad (source_of d) r (source_of d')

  -- It reads a tree for which `reads` holds, of which the result is a `value`, and may answer `other` errors than
  -- those of reading.
  abbrev pub DeserializesTree : {V : Type 0} → (Tree → Type 0) → (Tree → V → Type 0) → (Error → Type 0) → Deserializer S M O → Result V Error → Deserializer S M O → Type 0
  DeserializesTree reads value other d r d' = Reads F Spells reads value other (source_of d) r (source_of d')

  -- It reads the parts of that row.
  abbrev pub DeserializesParts : {V : Type 0} → Row V → Deserializer S M O → Result V Error → Deserializer S M O → Type 0
  DeserializesParts row d r d' = Reads F SpellsAll row.reads (λ ts v. row.value v ts) row.other (source_of d) r (source_of d')

  -- It reads the content of the variant of that index.
  abbrev pub DeserializesCase : {V : Type 0} → Cases V → ℕ → Deserializer S M O → Result V Error → Deserializer S M O → Type 0
  DeserializesCase cases index d r d' = DeserializesTree (cases.reads index) (cases.value index) cases.other d r d'

  -- It reads the next of `old` values of that shape, of which `new` are then left, also if it fails. If none is
  -- left, it returns `None` and reads nothing.
  pub record DeserializesNext {V : Type 0} (shape : Shape V) (old : ℕ) (d : Deserializer S M O) (r : Result (Option V) Error) (new : ℕ) (d' : Deserializer S M O) : Type 0 where
    pub count : new ≡ old - 1
    pub none : old ≡ 0 → (r ≡ Ok None) × (d' ≡ d)
    pub some : 0 < old → DeserializesTree shape.reads (SomeIs shape.value) shape.other d r d'

  -- It reads a value of that shape, which has no bytes: it never fails, and changes nothing.
  pub record DeserializesNothing {V : Type 0} (shape : Shape V) (d : Deserializer S M O) (r : Result V Error) (d' : Deserializer S M O) : Type 0 where
    pub reads : Deserializes shape d r d'
    pub succeeds : IsOk r
    pub unchanged : d' ≡ d

-- A call that begins n parts of a value, for which it reads nothing.
pub record BeginsParts {D : Type 0} (n : ℕ) (d : D) (r : Result ℕ Error) (d' : D) : Type 0 where
  pub parts : r ≡ Ok n
  pub unchanged : d' ≡ d

-- A call that the format can't serve: it always fails, and changes nothing.
pub record IsUnsupported {D V : Type 0} (d : D) (r : Result V Error) (d' : D) : Type 0 where
  pub refused : r ≡ Err WontImplement
  pub unchanged : d' ≡ d
