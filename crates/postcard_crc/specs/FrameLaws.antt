-- The laws of frames with a checksum, in terms of values.
use Rattle.std.specs.Prelude.{◌≡◌, ℕ, List, ◌++◌}
use Rattle.crc.specs.Crc.{Parameters, IsCrc, IsSound}
use Rattle.crc.specs.Checked.{low_bytes, AreBytes}
use Rattle.postcard_cobs.specs.Groups.{Groups}
use Rattle.postcard_wire.specs.Spelling.{canonical}
use Rattle.postcard_shape.specs.Shape.{Shape, Grows}
use Rattle.postcard_crc.specs.Reading.{IsDamaged}
use Rattle.postcard_accumulator.specs.declared.answers.Answer.{Answer}
use Rattle.postcard_accumulator.specs.declared.answers.Answer.TheVariants.{OverFull, DeserError}
use Rattle.postcard_accumulator.specs.declared.answers.Answer.TheVariants.{Success}
use Rattle.postcard_crc.specs.Own.{IsOwn}

-- The answer is a value that equals x. If the type allocates, it may be `DeserError` since an allocation failed.
abbrev pub Arrives : {T : Type 0} → Shape T → T → Answer T → Type 0
Arrives shape x (Success v) = shape.same v x
Arrives shape x DeserError = ¬ ¬ Grows shape
Arrives shape x OverFull = ⊥

-- The frame of a value that fits, with its checksum, has that value as its own answer.
abbrev pub MessageArrives : {T : Type 0} → Shape T → Type 0
MessageArrives {T} shape =
    (k : ℕ) (a : Parameters) (x : T) (crc : ℕ) (frame : List ℕ) (answer : Answer T) → IsSound a
    → shape.fits x → IsCrc a (canonical (shape.tree x)) crc
    → Groups frame (canonical (shape.tree x) ++ low_bytes k crc) → IsOwn shape k a frame answer
    → Arrives shape x answer

-- Let a frame's data be the encoding of a value that fits, with its checksum. Let bits of the data be changed, all within `width` bits in a
-- row. If the frame's own answer is a value, nothing was changed, and the value equals the one that was sent.
abbrev pub DamageRefused : {T : Type 0} → Shape T → Type 0
DamageRefused {T} shape =
    (k : ℕ) (a : Parameters) (x v : T) (crc : ℕ) (frame came : List ℕ) → shape.fits x
    → IsCrc a (canonical (shape.tree x)) crc
    → IsDamaged k a (canonical (shape.tree x) ++ low_bytes k crc) came → AreBytes came
    → Groups frame came → IsOwn shape k a frame (Success v)
    → (came ≡ canonical (shape.tree x) ++ low_bytes k crc) × shape.same v x
