-- The own answer of a frame to a reader of values that have a checksum after them.
use Rattle.std.specs.Prelude.{◌≡◌, ℕ, List, ◌++◌}
use Rattle.crc.specs.Crc.{Parameters, IsCrc, IsSound}
use Rattle.crc.specs.Checked.{low_bytes}
use Rattle.postcard_cobs.specs.Groups.{Groups}
use Rattle.postcard_wire.specs.Tree.{Tree}
use Rattle.postcard_wire.specs.Spelling.{Spells}
use Rattle.postcard_shape.specs.Shape.{Shape, Grows}
use Rattle.postcard_accumulator.specs.declared.answers.Answer.{Answer}
use Rattle.postcard_accumulator.specs.declared.answers.Answer.TheVariants.{OverFull, DeserError}
use Rattle.postcard_accumulator.specs.declared.answers.Answer.TheVariants.{Success}

-- The frame's data is an accepted encoding of a tree of the type, and then just its checksum in k bytes. The value of that tree is v.
pub record IsValueOf {T : Type 0} (shape : Shape T) (k : ℕ) (a : Parameters) (frame : List ℕ) (v : T)
    : Type 0 where
  pub content : List ℕ
  pub decodes : Groups frame content
  pub tree : Tree
  pub front : List ℕ
  pub crc : ℕ
  pub is_read : shape.reads tree
  pub is_spelled : Spells tree front
  pub has : shape.value tree v
  pub is_crc : IsCrc a front crc
  pub joins : content ≡ front ++ low_bytes k crc

-- The frame has no such value. Of a type that allocates this says nothing, since an allocation may have failed. Nor does it of an algorithm
-- that isn't sound.
abbrev pub IsRefused : {T : Type 0} → Shape T → ℕ → Parameters → List ℕ → Type 0
IsRefused {T} shape k a frame = ¬ Grows shape → IsSound a → (v : T) → IsValueOf shape k a frame v → ⊥

-- The own answer of a frame: its value, or `DeserError` if it has none.
abbrev pub IsOwn : {T : Type 0} → Shape T → ℕ → Parameters → List ℕ → Answer T → Type 0
IsOwn shape k a frame (Success v) = IsValueOf shape k a frame v
IsOwn shape k a frame DeserError = IsRefused shape k a frame
IsOwn shape k a frame OverFull = ⊥
