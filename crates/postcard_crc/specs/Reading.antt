-- Reading messages that have their checksum after them.
use Rattle.std.specs.Prelude.{◌≡◌, ◌⊎◌, ℕ, ◌*◌, ◌<◌, ◌≤◌, List, [], ◌++◌, length, true, bit_xor}
use Rattle.std.specs.Prelude.{Result, MatchResult}
use Rattle.crc.specs.Crc.{Parameters, IsCrc, IsSound, message}
use Rattle.crc.specs.Digest.{Progress, Took}
use Rattle.crc.specs.Checked.{low_bytes, AreBytes, IsChecked}
use Rattle.crc.specs.Damage.{IsBurst}
use Rattle.postcard_cobs.specs.Groups.{Groups}
use Rattle.postcard_wire.specs.Tree.{Tree}
use Rattle.postcard_wire.specs.Spelling.{Spells}
use Rattle.postcard_wire.specs.declared.error.Error.{Error}
use Rattle.postcard_wire.specs.declared.error.Error.TheVariants.{DeserializeUnexpectedEnd}
use Rattle.postcard_wire.specs.declared.error.Error.TheVariants.{DeserializeBadCrc, OutOfMemory}
use Rattle.postcard_shape.specs.Shape.{Shape, Grows}
use Rattle.postcard_crc.specs.Writing.{IsCrcAfter}

-- The output is the bytes, and then the k bytes of their checksum.
pub record IsWithCrc (k : ℕ) (d : Progress) (bytes output : List ℕ) : Type 0 where
  pub crc : ℕ
  pub is_crc : IsCrcAfter d bytes crc
  pub joins : output ≡ bytes ++ low_bytes k crc

-- A prefix of the bytes encodes a tree of the type, and the k bytes of its checksum follow. The value of the tree is v, and `rest` is the
-- bytes after the checksum.
pub record ReadsChecked {V : Type 0} (reads : Tree → Type 0) (value : Tree → V → Type 0)
    (k : ℕ) (d : Progress) (bytes : List ℕ) (v : V) (rest : List ℕ) : Type 0 where
  pub tree : Tree
  pub front : List ℕ
  pub crc : ℕ
  pub is_read : reads tree
  pub is_spelled : Spells tree front
  pub has : value tree v
  pub is_crc : IsCrcAfter d front crc
  pub joins : bytes ≡ front ++ low_bytes k crc ++ rest

-- A prefix of the bytes encodes a tree of the type, and fewer than k bytes follow it.
pub record IsCutShort (reads : Tree → Type 0) (k : ℕ) (bytes : List ℕ) : Type 0 where
  pub tree : Tree
  pub front : List ℕ
  pub rest : List ℕ
  pub is_read : reads tree
  pub is_spelled : Spells tree front
  pub joins : bytes ≡ front ++ rest
  pub short : length rest < k

-- A prefix of the bytes encodes a tree of the type, and k bytes or more follow it. They don't begin with the checksum of m and then the
-- prefix.
pub record HasOtherCrc (reads : Tree → Type 0) (k : ℕ) (a : Parameters) (m bytes : List ℕ) : Type 0 where
  pub tree : Tree
  pub front : List ℕ
  pub rest : List ℕ
  pub is_read : reads tree
  pub is_spelled : Spells tree front
  pub joins : bytes ≡ front ++ rest
  pub enough : k ≤ length rest
  pub other : (crc : ℕ) (after : List ℕ) → IsCrc a (m ++ front) crc → rest ≡ low_bytes k crc ++ after → ⊥

module _ (reads : Tree → Type 0) (grows : Type 0) (k : ℕ) (d : Progress) (bytes : List ℕ) where
  -- The bytes have no fault for which there is an error of checksums.
  pub record IsFaultless : Type 0 where
    pub not_short : IsCutShort reads k bytes → ⊥
    pub not_other : (a : Parameters) (m : List ℕ) → Took d a m → HasOtherCrc reads k a m bytes → ⊥

  -- If no allocation fails: the error is `DeserializeUnexpectedEnd` if fewer bytes than a checksum follow the value. It is
  -- `DeserializeBadCrc` if and only if enough bytes follow and aren't its checksum. If there is a value, `DeserializeUnexpectedEnd` comes
  -- only if fewer bytes follow it.
  pub record IsFaultOf (e : Error) : Type 0 where
    pub short : IsCutShort reads k bytes → (e ≡ DeserializeUnexpectedEnd) ⊎ ((e ≡ OutOfMemory) × grows)
    pub only_short : e ≡ DeserializeUnexpectedEnd → (t : Tree) (front rest : List ℕ) → reads t
        → Spells t front → bytes ≡ front ++ rest → length rest < k
    pub other : (a : Parameters) (m : List ℕ) → Took d a m → HasOtherCrc reads k a m bytes
        → (e ≡ DeserializeBadCrc) ⊎ ((e ≡ OutOfMemory) × grows)
    pub only_other : e ≡ DeserializeBadCrc → (a : Parameters) (m : List ℕ) → IsSound a → Took d a m
        → HasOtherCrc reads k a m bytes

-- Which fault of the bytes has which error.
abbrev pub HasExactErrors : {V R : Type 0} → Shape V → ℕ → Progress → List ℕ → Result R Error → Type 0
HasExactErrors shape k d bytes r = MatchResult r (λ _. IsFaultless shape.reads (Grows shape) k d bytes)
    (IsFaultOf shape.reads (Grows shape) k d bytes)

-- What was sent is a message with its checksum in k bytes, by a sound algorithm whose message and checksum come lowest bit first. Of it at
-- most `width` bits in a row were changed into the bytes that came.
pub record IsDamaged (k : ℕ) (a : Parameters) (sent came : List ℕ) : Type 0 where
  pub sound : IsSound a
  pub narrow : a.width ≤ 8 * k
  pub refin : a.refin ≡ true
  pub refout : a.refout ≡ true
  pub is_checked : IsChecked a k sent
  pub are_bytes : AreBytes sent
  pub length : length sent ≡ length came
  pub burst : IsBurst a.width (bit_xor (message true sent) (message true came))

-- The frame's data is an accepted encoding of the type, and then just its checksum.
pub record ReadsFrameChecked {V : Type 0} (reads : Tree → Type 0) (value : Tree → V → Type 0)
    (k : ℕ) (d : Progress) (frame : List ℕ) (v : V) : Type 0 where
  pub content : List ℕ
  pub decodes : Groups frame content
  pub is_read : ReadsChecked reads value k d content v []
