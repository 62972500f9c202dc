-- What is printed for a stream of frames.
use Rattle.std.specs.Prelude.{◌≡◌, ℕ, ◌+◌, ◌<◌, ◌≤◌, ◌⊎◌, ⊤, List, [], ◌∷◌, ◌++◌, length, Option, None}
use Rattle.std.specs.Io.KnownBytes.{Consumes, IsAtEnd, Appends}
use Rattle.postcard_cobs.specs.Groups.{NoZero}
use Rattle.pcard_print.specs.Answers.{Answer, Why, refused}
use Rattle.pcard_print.specs.Lines.{PrintsAnswer, offset}
use Rattle.pcard_print.specs.declared.refusal.Reason.TheVariants.{Overfull}
use Rattle.pcard_message.specs.Reading.{IsFrameAnswer}
use Rattle.pcard_message.specs.declared.format.Format.{Format}

-- The refusal of a frame that is too long.
abbrev pub overfull : Why
overfull = record { offset = 0; reason = Overfull; path = []; shown = None }

-- The answer is right for the frame. If the frame and its zero have more than `longest` bytes, it is that the frame is too long.
abbrev pub IsAnswerTo : Format → ℕ → List ℕ → Answer → Type 0
IsAnswerTo format longest frame answer =
    ((length frame + 1 ≤ longest) × IsFrameAnswer format frame answer) ⊎ ((longest < length frame + 1) × (answer ≡ refused overfull))

-- A frame of the stream, without the zero that ends it, and its answer.
pub record Answered : Type 0 where
  pub frame : List ℕ
  pub answer : Answer

-- The frames have no zero, and each answer is right.
abbrev pub AreAnswered : Format → ℕ → List Answered → Type 0
AreAnswered format longest [] = ⊤
AreAnswered format longest (a ∷ more) = NoZero a.frame × IsAnswerTo format longest a.frame a.answer × AreAnswered format longest more

-- The bytes of the frames, each with the zero that ends it.
abbrev pub bytes_of : List Answered → List ℕ
bytes_of [] = []
bytes_of (a ∷ more) = (a.frame ++ 0 ∷ []) ++ bytes_of more

-- The line of an answer to the frame at an offset is printed.
abbrev pub PrintsLine : Format → ℕ → Answer → Option (List ℕ) → Option (List ℕ) → Type 0
PrintsLine format at answer old new = PrintsAnswer format.notation format.schema at answer old new

-- The lines of answers are printed, in order. The first frame comes after `before` bytes of the stream.
abbrev pub PrintsLinesOf : Format → ℕ → List Answered → Option (List ℕ) → Option (List ℕ) → Type 0
PrintsLinesOf format before [] old new = Appends old new []
PrintsLinesOf format before (a ∷ more) old new =
    (mid : Option (List ℕ)) × PrintsLine format (offset before) a.answer old mid
    × PrintsLinesOf format (before + length a.frame + 1) more mid new

-- What is printed of the bytes after the last zero, before which are `before` bytes: if they are more than `longest`, the line of a frame
-- that is too long, and else nothing.
pub record PrintsRest (format : Format) (longest before : ℕ) (rest : List ℕ) (old new : Option (List ℕ)) : Type 0 where
  pub over : longest < length rest → PrintsLine format (offset before) (refused overfull) old new
  pub fits : length rest ≤ longest → Appends old new []

-- The bytes `given` are frames, each ended by a zero, and then bytes without a zero. The lines of the frames' answers and of the last bytes
-- are printed.
pub record PrintsLines (format : Format) (longest : ℕ) (given : List ℕ) (old new : Option (List ℕ)) : Type 0 where
  pub answered : List Answered
  pub rest : List ℕ
  pub cut : given ≡ bytes_of answered ++ rest
  pub are : AreAnswered format longest answered
  pub rest_no_zero : NoZero rest
  pub mid : Option (List ℕ)
  pub frames : PrintsLinesOf format 0 answered old mid
  pub last : PrintsRest format longest (length (bytes_of answered)) rest mid new

-- The bytes `given` were read, and their lines are printed.
pub record PrintsSoFar (format : Format) (longest : ℕ) (given : List ℕ) (known left old new : Option (List ℕ)) : Type 0 where
  pub reader : Consumes known left given
  pub lines : PrintsLines format longest given old new

-- All of the input was read, and its lines are printed.
pub record PrintsStream (format : Format) (longest : ℕ) (known left old new : Option (List ℕ)) : Type 0 where
  pub given : List ℕ
  pub all : PrintsSoFar format longest given known left old new
  pub at_end : IsAtEnd left
