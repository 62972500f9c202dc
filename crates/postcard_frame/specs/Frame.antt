-- What a decoding call returns for the frame at the front of its buffer.
use Rattle.std.specs.Prelude.{◌≡◌, ◌⊎◌, ℕ, List, ◌++◌, Result, Err, MatchResult, IfOk, IfErr, IsErrOf}
use Rattle.postcard_cobs.specs.Groups.{Groups, before_zero, made}
use Rattle.postcard_wire.specs.Tree.{Tree}
use Rattle.postcard_wire.specs.Spelling.{Spells, canonical}
use Rattle.postcard_wire.specs.declared.error.Error.{Error}
use Rattle.postcard_wire.specs.declared.error.Error.TheVariants.{OutOfMemory}
use Rattle.postcard_wire.specs.declared.error.Error.TheVariants.{DeserializeBadEncoding}
use Rattle.postcard_de.specs.Reads.{IsReadError}
use Rattle.postcard_shape.specs.Shape.{Shape, Grows}
use Rattle.postcard_de.specs.Front.{ReadsFront}

-- The frame has data of which a front spells a tree that is read, and v is that tree's value.
pub record ReadsFrame {V : Type 0} (reads : Tree → Type 0) (value : Tree → V → Type 0)
    (frame : List ℕ) (v : V) : Type 0 where
  pub content : List ℕ
  pub decodes : Groups frame content
  pub rest : List ℕ
  pub is_read : ReadsFront reads value content v rest

-- The bytes are no frame: they are empty, or a group runs past their end.
abbrev pub HasNoData : List ℕ → Type 0
HasNoData frame = (content : List ℕ) → Groups frame content → ⊥

module _ {V R : Type 0} (shape : Shape V) (value : R → V) (frame : List ℕ)
    (r : Result R Error) where
  -- The call succeeds with a value of which P holds, or fails with `OutOfMemory` for a type that
  -- grows.
  abbrev pub SucceedsWith : (V → Type 0) → Type 0
  SucceedsWith P = MatchResult r (λ read. P (value read)) (λ e. (e ≡ OutOfMemory) × Grows shape)

  -- The call succeeds if a front of the frame's data spells a tree that the type reads.
  abbrev pub AcceptsFrame : Type 0
  AcceptsFrame = (content : List ℕ) (t : Tree) (front rest : List ℕ) → Groups frame content
      → shape.reads t → Spells t front → content ≡ front ++ rest → SucceedsWith (shape.value t)

  -- The made frame of a value that fits, with its zero or without, reads back as a value that
  -- looks like it.
  abbrev pub ReadsBackFrame : Type 0
  ReadsBackFrame = (x : V) → shape.fits x → frame ≡ before_zero (made (canonical (shape.tree x)))
      → SucceedsWith (λ v. shape.same v x)

  -- All that is said of what a call returns for the frame.
  pub record IsReadOf : Type 0 where
    pub gives : IfOk r (λ read. ReadsFrame shape.reads shape.value frame (value read))
    pub accepts : AcceptsFrame
    pub reads_back : ReadsBackFrame
    pub no_frame : HasNoData frame → IsErrOf r DeserializeBadEncoding
    pub bad_only_if_no_data : r ≡ Err DeserializeBadEncoding → HasNoData frame
    -- For users' proofs.
    pub out_of_memory_only_if_grows : r ≡ Err OutOfMemory → Grows shape
    pub named_error : IfErr r (λ e. (e ≡ DeserializeBadEncoding) ⊎ IsReadError shape.other e)
