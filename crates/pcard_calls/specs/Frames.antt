-- The lines that are printed for the answers of a stream.
use Rattle.std.specs.Prelude.{ℕ, ⊤, ◌≤◌, length, List, [], ◌∷◌, ◌++◌, codes, Vec, Option}
use Rattle.std.specs.List.{flat_map}
use Rattle.std.specs.Io.KnownBytes.{Consumes, IsAtEnd, Appends}
use Rattle.std.specs.declared.alloc.Global.{Global}
use Rattle.hex.specs.Hex.{encode_lower}
use Rattle.pcard_message.specs.declared.failure.Failure.{Failure}
use Rattle.pcard_message.specs.declared.failure.Failure.TheVariants.{Limit, ReadFailed, Output, OutOfMemory}
use Rattle.postcard_shape.specs.Shape.{Shape, via, growing}
use Rattle.postcard_shape.specs.Lists.{seq}
use Rattle.postcard_shape.specs.Leaves.{byte}
use Rattle.postcard_accumulator.specs.State.{State, holding}
use Rattle.postcard_accumulator.specs.Values.{Answers}
use Rattle.postcard_accumulator.specs.declared.answers.Answer.{Answer}
use Rattle.postcard_accumulator.specs.declared.answers.Answer.TheVariants.{OverFull, DeserError}
use Rattle.postcard_accumulator.specs.declared.answers.Answer.TheVariants.{Success}

-- The line of an answer. A list of bytes is printed in hexadecimal.
abbrev pub answer_line : Answer (Vec ℕ Global) → List ℕ
answer_line OverFull = codes "overfull" ++ 10 ∷ []
answer_line DeserError = codes "error" ++ 10 ∷ []
answer_line (Success bytes) = codes "ok " ++ (encode_lower bytes.items ++ 10 ∷ [])

-- The lines of the answers, in order.
abbrev pub answer_lines : List (Answer (Vec ℕ Global)) → List ℕ
answer_lines answers = flat_map answer_line answers

-- The shape of a list of bytes.
abbrev pub byte_list : Shape (Vec ℕ Global)
byte_list = via (λ v. v.items) (growing (seq byte))

-- The bytes `given` were read, and the lines of the answers to them are printed, where frames have at most 64 bytes.
abbrev pub PrintsAnswersSoFar : List ℕ → Option (List ℕ) → Option (List ℕ) → Option (List ℕ) → Option (List ℕ) → Type 0
PrintsAnswersSoFar given known left old new =
    (answers : List (Answer (Vec ℕ Global))) × (after : State) × Consumes known left given
    × Answers 64 byte_list (holding []) given answers after × Appends old new (answer_lines answers)

-- All of the input was read, and the lines of the answers to it are printed.
abbrev pub PrintsAnswers : Option (List ℕ) → Option (List ℕ) → Option (List ℕ) → Option (List ℕ) → Type 0
PrintsAnswers known left old new = (given : List ℕ) × PrintsAnswersSoFar given known left old new × IsAtEnd left

-- The failures of `frames`, whose lines until then were printed. At `Limit` at least one byte was
-- read for each of the 65,536 reads.
abbrev pub FramesFail : Type 0 → Option (List ℕ) → Option (List ℕ) → Option (List ℕ) → Option (List ℕ) → Failure → Type 0
FramesFail steady known left old new Limit = (given : List ℕ) × (65536 ≤ length given) × PrintsAnswersSoFar given known left old new
FramesFail steady known left old new ReadFailed = (steady → ⊥) × ((given : List ℕ) × PrintsAnswersSoFar given known left old new)
FramesFail steady known left old new OutOfMemory = ⊤
FramesFail steady known left old new Output = ⊤
FramesFail steady known left old new failure = ⊥
