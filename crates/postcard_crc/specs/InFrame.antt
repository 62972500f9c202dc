-- What a decoding call with a checksum returns for the frame at the start of its buffer.
use Rattle.std.specs.Prelude.{◌≡◌, ◌⊎◌, ℕ, List, [], ◌++◌, Result, IfOk, IfErr, IsErrOf, OnOk, MatchResult}
use Rattle.crc.specs.Crc.{Parameters, IsCrc, IsSound}
use Rattle.crc.specs.Digest.{Progress, Took}
use Rattle.crc.specs.Checked.{low_bytes}
use Rattle.postcard_cobs.specs.Groups.{Groups}
use Rattle.postcard_wire.specs.Tree.{Tree}
use Rattle.postcard_wire.specs.Spelling.{Spells, canonical}
use Rattle.postcard_wire.specs.declared.error.Error.{Error}
use Rattle.postcard_wire.specs.declared.error.Error.TheVariants.{OutOfMemory}
use Rattle.postcard_wire.specs.declared.error.Error.TheVariants.{DeserializeBadCrc, DeserializeBadEncoding}
use Rattle.postcard_de.specs.Reads.{IsReadError}
use Rattle.postcard_shape.specs.Shape.{Shape, Grows}
use Rattle.postcard_frame.specs.Frame.{HasNoData}
use Rattle.postcard_crc.specs.Reading.{ReadsFrameChecked, HasExactErrors, IsDamaged}

module _ {V : Type 0} (shape : Shape V) (k : ℕ) (d : Progress) (frame : List ℕ) (r : Result V Error) where
  -- The call succeeds if the frame's data is an accepted encoding of the type, followed by the k bytes of its checksum. The checksum also
  -- covers what the digest d has taken before.
  abbrev pub AcceptsChecked : Type 0
  AcceptsChecked = (t : Tree) (a : Parameters) (m front : List ℕ) (crc : ℕ) → shape.reads t → Spells t front
      → IsSound a → Took d a m → IsCrc a (m ++ front) crc → Groups frame (front ++ low_bytes k crc)
      → MatchResult r (λ v. shape.value t v) (λ e. (e ≡ OutOfMemory) × Grows shape)

  -- A value that fits, with its checksum in a frame, reads back as an equal value.
  abbrev pub ReadsBackChecked : Type 0
  ReadsBackChecked = (x : V) (a : Parameters) (m : List ℕ) (crc : ℕ) → shape.fits x → IsSound a
      → Took d a m → IsCrc a (m ++ canonical (shape.tree x)) crc
      → Groups frame (canonical (shape.tree x) ++ low_bytes k crc)
      → MatchResult r (λ v. shape.same v x) (λ e. (e ≡ OutOfMemory) × Grows shape)

  -- A message with its checksum that was damaged in few bits in a row is refused.
  abbrev pub RefusesDamage : Type 0
  RefusesDamage = (a : Parameters) (sent came : List ℕ) → Took d a [] → Groups frame came
      → IsDamaged k a sent came → OnOk r (sent ≡ came)

  -- Which fault of the frame's data has which error.
  abbrev pub HasDataErrors : Type 0
  HasDataErrors = (content : List ℕ) → Groups frame content → HasExactErrors shape k d content r

  -- All clauses on what a call returns for the frame.
  pub record IsReadOf : Type 0 where
    pub gives : IfOk r (ReadsFrameChecked shape.reads shape.value k d frame)
    pub accepts : AcceptsChecked
    pub reads_back : ReadsBackChecked
    pub refuses_damage : RefusesDamage
    pub no_frame : HasNoData frame → IsErrOf r DeserializeBadEncoding
    pub exact_errors : HasDataErrors
    pub named_error : IfErr r (λ e. IsReadError shape.other e ⊎ ((e ≡ DeserializeBadCrc) ⊎ (e ≡ DeserializeBadEncoding)))
