-- When a decoding call with a checksum succeeds.
use Rattle.std.specs.Prelude.{◌≡◌, ◌≢◌, ◌⊎◌, ℕ, List, [], ◌++◌, Result, MatchResult, IsErrAnd}
use Rattle.std.specs.Borrow.{Bor}
use Rattle.crc.specs.Crc.{Parameters, IsCrc, IsSound}
use Rattle.crc.specs.Digest.{Progress, Took}
use Rattle.crc.specs.Checked.{low_bytes}
use Rattle.postcard_wire.specs.Tree.{Tree}
use Rattle.postcard_wire.specs.Spelling.{Spells, canonical}
use Rattle.postcard_wire.specs.declared.error.Error.{Error}
use Rattle.postcard_wire.specs.declared.error.Error.TheVariants.{OutOfMemory, DeserializeBadEncoding}
use Rattle.postcard_shape.specs.Shape.{Shape, Grows}

module _ {V : Type 0} (shape : Shape V) (k : ℕ) (d : Progress) (bytes : List ℕ) where
  -- Let a prefix of the bytes encode a tree of the type. Let the k bytes of its checksum follow, and then `rest`. The checksum is that of
  -- what the digest d has taken and the prefix. The call returns a value of that tree and `rest`. A type that allocates may run out of
  -- memory.
  abbrev pub AcceptsFrontAndRest : Result (V × Bor (List ℕ)) Error → Type 0
  AcceptsFrontAndRest r = (t : Tree) (a : Parameters) (m front rest : List ℕ) (crc : ℕ)
      → shape.reads t → Spells t front → IsSound a → Took d a m
      → IsCrc a (m ++ front) crc → bytes ≡ front ++ (low_bytes k crc ++ rest) →
      MatchResult r (λ read. shape.value t read.0 × (read.1.now ≡ rest))
      (λ e. (e ≡ OutOfMemory) × Grows shape)

  -- The encoding of a value that fits, with its checksum after it, reads back as an equal value, with the remaining bytes.
  abbrev pub ReadsBackFrontAndRest : Result (V × Bor (List ℕ)) Error → Type 0
  ReadsBackFrontAndRest r = (x : V) (a : Parameters) (m rest : List ℕ) (crc : ℕ)
      → shape.fits x → IsSound a → Took d a m
      → IsCrc a (m ++ canonical (shape.tree x)) crc
      → bytes ≡ canonical (shape.tree x) ++ (low_bytes k crc ++ rest) →
      MatchResult r (λ read. shape.same read.0 x × (read.1.now ≡ rest))
      (λ e. (e ≡ OutOfMemory) × Grows shape)

  -- As `AcceptsFrontAndRest`, for a call that ignores the remaining bytes.
  abbrev pub AcceptsFront : Result V Error → Type 0
  AcceptsFront r = (t : Tree) (a : Parameters) (m front rest : List ℕ) (crc : ℕ)
      → shape.reads t → Spells t front → IsSound a → Took d a m
      → IsCrc a (m ++ front) crc → bytes ≡ front ++ (low_bytes k crc ++ rest) →
      MatchResult r (λ value. shape.value t value) (λ e. (e ≡ OutOfMemory) × Grows shape)

  -- As `ReadsBackFrontAndRest`, for a call that ignores the remaining bytes.
  abbrev pub ReadsBackFront : Result V Error → Type 0
  ReadsBackFront r = (x : V) (a : Parameters) (m rest : List ℕ) (crc : ℕ)
      → shape.fits x → IsSound a → Took d a m
      → IsCrc a (m ++ canonical (shape.tree x)) crc
      → bytes ≡ canonical (shape.tree x) ++ (low_bytes k crc ++ rest) →
      MatchResult r (λ value. shape.same value x) (λ e. (e ≡ OutOfMemory) × Grows shape)

  -- As `AcceptsFront`, if nothing follows the checksum.
  abbrev pub AcceptsWhole : Result V Error → Type 0
  AcceptsWhole r = (t : Tree) (a : Parameters) (m front : List ℕ) (crc : ℕ)
      → shape.reads t → Spells t front → IsSound a → Took d a m
      → IsCrc a (m ++ front) crc → bytes ≡ front ++ low_bytes k crc →
      MatchResult r (λ value. shape.value t value) (λ e. (e ≡ OutOfMemory) × Grows shape)

  -- As `ReadsBackFront`, if nothing follows the checksum.
  abbrev pub ReadsBackWhole : Result V Error → Type 0
  ReadsBackWhole r = (x : V) (a : Parameters) (m : List ℕ) (crc : ℕ)
      → shape.fits x → IsSound a → Took d a m
      → IsCrc a (m ++ canonical (shape.tree x)) crc
      → bytes ≡ canonical (shape.tree x) ++ low_bytes k crc →
      MatchResult r (λ value. shape.same value x) (λ e. (e ≡ OutOfMemory) × Grows shape)

  -- If bytes follow the checksum, the error is `DeserializeBadEncoding`. A type that allocates may also run out of memory.
  abbrev pub RefusesMore : Result V Error → Type 0
  RefusesMore r = (t : Tree) (a : Parameters) (m front rest : List ℕ) (crc : ℕ)
      → shape.reads t → Spells t front → IsSound a → Took d a m
      → IsCrc a (m ++ front) crc → bytes ≡ front ++ (low_bytes k crc ++ rest)
      → rest ≢ [] → IsErrAnd r (λ e. (e ≡ DeserializeBadEncoding) ⊎ ((e ≡ OutOfMemory) × Grows shape))
