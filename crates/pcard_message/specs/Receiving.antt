-- The state of a stream between two pieces, how a piece changes it, and when each failure of reading a stream comes.
use Rattle.std.specs.Prelude.{◌≡◌, ◌^◌, ◌-◌, ℕ, ◌<◌, ◌≤◌, ⊤, Bool, true, false, List, ◌++◌, length, Option}
use Rattle.std.specs.Io.KnownBytes.{Consumes, IsAtEnd, Keeps}
use Rattle.postcard_wire.specs.declared.error.Error.{Error}
use Rattle.postcard_wire.specs.declared.error.Error.TheVariants.{WontImplement}
use Rattle.pcard_print.specs.Answers.{Answer}
use Rattle.pcard_print.specs.Lines.{offset}
use Rattle.pcard_print.specs.declared.error.PrintError.{PrintError}
use Rattle.pcard_print.specs.declared.error.PrintError.TheVariants as prints
use Rattle.pcard_print.specs.declared.notation.Notation.{Notation}
use Rattle.pcard_print.specs.declared.notation.Notation.TheVariants.{Text, Json}
use Rattle.pcard_message.specs.Stream.{IsAnswerTo, PrintsLine, bytes_of, PrintsLines, PrintsSoFar}
use Rattle.pcard_message.specs.declared.failure.Failure.{Failure}
use Rattle.pcard_message.specs.declared.failure.Failure.TheVariants.{Library, OutOfMemory, Output, ReadFailed, Limit}
use Rattle.pcard_message.specs.declared.format.Format.{Format}
use Rattle.pcard_message.specs.declared.stream.Stream.{Stream}

-- The lines of the bytes `given` are printed, and the state is that after them.
pub record IsAfter (format : Format) (longest : ℕ) (given : List ℕ) (s : Stream) (old new : Option (List ℕ)) : Type 0 where
  pub lines : PrintsLines format longest given old new
  pub limit : s.longest ≡ longest
  pub start : s.start ≡ offset (length (bytes_of lines.answered))
  pub count : s.count ≡ offset (length given)
  pub held : s.skipping ≡ false → (s.held.items ≡ lines.rest) × (length lines.rest ≤ longest)
  pub over : s.skipping ≡ true → longest < length lines.rest

-- The piece takes the state `before` to `after`, and its lines are printed. Let some bytes be given before, with their lines printed. Then
-- the lines of these bytes and the piece together are printed.
abbrev pub Continues : Format → Stream → List ℕ → Stream → Option (List ℕ) → Option (List ℕ) → Type 0
Continues format before piece after old new =
    (longest : ℕ) (given : List ℕ) (first : Option (List ℕ)) → IsAfter format longest given before first old
    → IsAfter format longest (given ++ piece) after first new

-- The line of an answer that is right for the frame at an offset is printed.
abbrev pub PrintsAnswerTo : Format → ℕ → ℕ → List ℕ → Option (List ℕ) → Option (List ℕ) → Type 0
PrintsAnswerTo format longest at frame old new = (answer : Answer) × IsAnswerTo format longest frame answer × PrintsLine format at answer old new

-- The two states have the same fields, without the room for data, which may differ.
pub record IsSame (before after : Stream) : Type 0 where
  pub longest : after.longest ≡ before.longest
  pub held : after.held.items ≡ before.held.items
  pub skipping : after.skipping ≡ before.skipping
  pub start : after.start ≡ before.start
  pub count : after.count ≡ before.count

-- A read gave a piece of the input, whose lines are printed. `more` says whether the piece has a byte. If not, the input is at its end.
pub record Reads (format : Format) (before after : Stream) (known left old new : Option (List ℕ)) (more : Bool) : Type 0 where
  pub piece : List ℕ
  pub reader : Consumes known left piece
  pub lines : Continues format before piece after old new
  pub some : more ≡ true → 0 < length piece
  pub at_end : more ≡ false → IsAtEnd left

-- The error of a value that has no line in a notation: it has no JSON. It is not proved that every value has JSON.
abbrev pub LacksLine : Notation → Error → Type 0
LacksLine Text e = ⊥
LacksLine Json e = e ≡ WontImplement

-- The failure of `frames` for a line that isn't printed.
abbrev pub line_failure : PrintError → Failure
line_failure prints.Output = Output
line_failure prints.OutOfMemory = OutOfMemory
line_failure prints.NoJson = Library WontImplement

-- When each failure of printing the lines of frames comes.
abbrev pub LinesFail : Format → Failure → Type 0
LinesFail format (Library e) = LacksLine format.notation e
LinesFail format OutOfMemory = ⊤
LinesFail format Output = ⊤
LinesFail format failure = ⊥

-- When each failure of a read and of printing its lines comes. A read that failed took nothing, and printed nothing.
abbrev pub ReadFails : Format → Type 0 → Option (List ℕ) → Option (List ℕ) → Option (List ℕ) → Option (List ℕ) → Failure → Type 0
ReadFails format steady known left old new ReadFailed = (steady → ⊥) × Keeps known left × (new ≡ old)
ReadFails format steady known left old new failure = LinesFail format failure

-- When each failure of `frames` comes. At `ReadFailed` and at `Limit`, which needs 2^64 - 1 bytes, the lines of what was read are printed.
abbrev pub StreamFails : Type 0 → Format → ℕ → Option (List ℕ) → Option (List ℕ) → Option (List ℕ) → Option (List ℕ) → Failure → Type 0
StreamFails steady format longest known left old new Limit = (given : List ℕ) × (2 ^ 64 - 1 ≤ length given) × PrintsSoFar format longest given known left old new
StreamFails steady format longest known left old new ReadFailed = (steady → ⊥) × ((given : List ℕ) × PrintsSoFar format longest given known left old new)
StreamFails steady format longest known left old new failure = LinesFail format failure
