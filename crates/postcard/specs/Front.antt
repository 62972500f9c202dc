-- The result of a call that decodes a value from the first bytes of a reader.
use Rattle.std.specs.Prelude.{◌≡◌, ℕ, ◌+◌, ◌≤◌, List, length, Option, Result, MatchResult}
use Rattle.std.specs.Borrow.{MutBor}
use Rattle.std.specs.Io.KnownBytes.{Consumes}
use Rattle.postcard_wire.specs.Tree.{Tree}
use Rattle.postcard_wire.specs.Spelling.{Spells, canonical}
use Rattle.postcard_wire.specs.declared.error.Error.{Error}
use Rattle.postcard_wire.specs.declared.error.Error.TheVariants.{OutOfMemory}
use Rattle.postcard_shape.specs.Shape.{Shape, Grows}
use Rattle.postcard_de_flavors.specs.Reader.{AtLeast}
use Rattle.postcard_de_flavors.specs.Source.{Begins, KeepsRear}

-- The bytes `front` encode a tree of the type, and v is that tree's value. If the reader knows its bytes, they begin with `front`, and just
-- it was read. The scratch left, `rest`, is the end of the scratch passed. Only the first bytes of the scratch passed may have changed, at
-- most the length of `front`. Let a steady reader have at least n bytes after `front`, and the scratch room for `front` and n bytes. Then
-- the reader and the scratch each have at least n bytes left.
pub record ReadsReader {R V : Type 0} (reads : Tree → Type 0) (value : Tree → V → Type 0) (remaining : R → Option (List ℕ)) (steady : R → Type 0) (old : R) (scratch : List ℕ) (v : V) (new : R) (rest : List ℕ) : Type 0 where
  pub tree : Tree
  pub front : List ℕ
  pub is_read : reads tree
  pub is_spelled : Spells tree front
  pub has : value tree v
  pub joins : Consumes (remaining old) (remaining new) front
  pub keeps : (n : ℕ) → steady old → AtLeast (remaining old) (length front + n) → length front + n ≤ length scratch → AtLeast (remaining new) n × (n ≤ length rest)
  pub keeps_rear : KeepsRear (length front) scratch rest

-- A call read a value of that shape from a steady reader in the state `old`, with the scratch. It returned r: the value, and what is left
-- of reader and scratch.
module _ {V R : Type 0} (shape : Shape V) (remaining : R → Option (List ℕ)) (steady : R → Type 0) (old : R) (scratch : List ℕ) (r : Result (V × (R × MutBor (List ℕ))) Error) where
  -- If a prefix of the reader's bytes encodes a tree of the type, and the scratch is no shorter, the call succeeds. It returns a value of
  -- that tree and has read just that prefix. A type that allocates may run out of memory.
  abbrev pub AcceptsReader : Type 0
  AcceptsReader = (t : Tree) (front : List ℕ) → shape.reads t → Spells t front
      → steady old → Begins (remaining old) front → length front ≤ length scratch
      → MatchResult r (λ read. shape.value t read.0 × Consumes (remaining old) (remaining read.1.0) front)
      (λ e. (e ≡ OutOfMemory) × Grows shape)

  -- The encoding of a value that fits reads back as an equal value.
  abbrev pub ReadsBackReader : Type 0
  ReadsBackReader = (x : V) → shape.fits x
      → steady old → Begins (remaining old) (canonical (shape.tree x)) → length (canonical (shape.tree x)) ≤ length scratch
      → MatchResult r (λ read. shape.same read.0 x × Consumes (remaining old) (remaining read.1.0) (canonical (shape.tree x)))
      (λ e. (e ≡ OutOfMemory) × Grows shape)
