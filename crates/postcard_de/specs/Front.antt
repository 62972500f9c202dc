-- What a decoding call returns for the front of its input.
use Rattle.std.specs.Prelude.{◌≡◌, ℕ, List, ◌++◌, Result, Err, IfOk, IfErr, MatchResult}
use Rattle.std.specs.Borrow.{Bor}
use Rattle.postcard_wire.specs.declared.error.Error.{Error}
use Rattle.postcard_wire.specs.declared.error.Error.TheVariants.{OutOfMemory}
use Rattle.postcard_wire.specs.Tree.{Tree}
use Rattle.postcard_wire.specs.Spelling.{Spells, canonical}
use Rattle.postcard_shape.specs.Shape.{Shape, Grows}
use Rattle.postcard_de_nodes.specs.Reads.{IsReadError}

-- A front of the bytes spells a tree that is read, v is that tree's value, and `rest` is the bytes
-- after the front.
pub record ReadsFront {V : Type 0} (reads : Tree → Type 0) (value : Tree → V → Type 0)
    (bytes : List ℕ) (v : V) (rest : List ℕ) : Type 0 where
  pub tree : Tree
  pub front : List ℕ
  pub is_read : reads tree
  pub is_spelled : Spells tree front
  pub has : value tree v
  pub joins : bytes ≡ front ++ rest

module _ {V : Type 0} (shape : Shape V) (bytes : List ℕ) where
  -- A call returned r, a value of that shape and the bytes after it: the value of a front of the bytes. It succeeds
  -- if a front spells a tree that is read, unless memory runs out for a type that grows. So the encoding of a value
  -- that fits, whatever follows it, reads back as a value that looks like it. An error is one of reading.
  pub record TakesFromBytes (r : Result (V × Bor (List ℕ)) Error) : Type 0 where
    pub gives : IfOk r (λ read. ReadsFront shape.reads shape.value bytes read.0 read.1.now)
    pub accepts : (t : Tree) (front rest : List ℕ)
        → shape.reads t → Spells t front → bytes ≡ front ++ rest →
        MatchResult r (λ read. shape.value t read.0 × (read.1.now ≡ rest))
        (λ e. (e ≡ OutOfMemory) × Grows shape)
    pub reads_back : (x : V) (rest : List ℕ)
        → shape.fits x → bytes ≡ canonical (shape.tree x) ++ rest →
        MatchResult r (λ read. shape.same read.0 x × (read.1.now ≡ rest))
        (λ e. (e ≡ OutOfMemory) × Grows shape)
    -- For users' proofs.
    pub out_of_memory_only_if_grows : r ≡ Err OutOfMemory → Grows shape
    pub named_error : IfErr r (IsReadError shape.other)

  -- A call returned r, a value of that shape, and ignored the bytes after it. All else is as `TakesFromBytes` says.
  pub record ReadsFromBytes (r : Result V Error) : Type 0 where
    pub gives : IfOk r (λ value. (rest : List ℕ) × ReadsFront shape.reads shape.value bytes value rest)
    pub accepts : (t : Tree) (front rest : List ℕ)
        → shape.reads t → Spells t front → bytes ≡ front ++ rest →
        MatchResult r (λ value. shape.value t value) (λ e. (e ≡ OutOfMemory) × Grows shape)
    pub reads_back : (x : V) (rest : List ℕ)
        → shape.fits x → bytes ≡ canonical (shape.tree x) ++ rest →
        MatchResult r (λ value. shape.same value x) (λ e. (e ≡ OutOfMemory) × Grows shape)
    -- For users' proofs.
    pub out_of_memory_only_if_grows : r ≡ Err OutOfMemory → Grows shape
    pub named_error : IfErr r (IsReadError shape.other)
