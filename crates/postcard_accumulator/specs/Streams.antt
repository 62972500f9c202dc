-- The answers of a whole stream: frames, each ended by a zero, and then a rest, where `own` says which
-- answer a frame that has room may have. The pieces that the stream is cut into don't occur here.
use Rattle.std.specs.Prelude.{◌≡◌, ℕ, ◌+◌, ◌<◌, ◌≤◌, ◌⊎◌, List, [], ◌∷◌, ◌++◌, length, flat_map}
use Rattle.postcard_cobs.specs.Groups.{NoZero, EndsFrame}
use Rattle.postcard_accumulator.specs.State.{State, holding, skipping}
use Rattle.postcard_accumulator.specs.declared.answers.FeedResult.{FeedResult}
use Rattle.postcard_accumulator.specs.declared.answers.FeedResult.TheVariants.{Consumed}
use Rattle.postcard_accumulator.specs.declared.answers.FeedResult.TheVariants as fed
use Rattle.postcard_accumulator.specs.declared.answers.Answer.{Answer}
use Rattle.postcard_accumulator.specs.declared.answers.Answer.TheVariants.{OverFull, DeserError}
use Rattle.postcard_accumulator.specs.declared.answers.Answer.TheVariants.{Success}

-- The answer of a frame: its own if the frame and its zero have room, and `OverFull` otherwise.
pub record IsAnswerOf {T : Type 0} (n : ℕ) (own : List ℕ → Answer T → Type 0) (f : List ℕ)
    (answer : Answer T) : Type 0 where
  pub its_own : length f + 1 ≤ n → own f answer
  pub over_full : n < length f + 1 → answer ≡ OverFull

-- One answer for each frame, in order.
abbrev pub AreAnswersOf : {T : Type 0} → ℕ → (List ℕ → Answer T → Type 0) → List (List ℕ)
    → List (Answer T) → Type 0
AreAnswersOf n own [] [] = Unit {0}
AreAnswersOf n own [] (a ∷ more) = ⊥
AreAnswersOf n own (f ∷ fs) [] = ⊥
AreAnswersOf n own (f ∷ fs) (a ∷ more) = IsAnswerOf n own f a × AreAnswersOf n own fs more

abbrev pub AreZeroFree : List (List ℕ) → Type 0
AreZeroFree [] = Unit {0}
AreZeroFree (f ∷ fs) = NoZero f × AreZeroFree fs

-- A frame and the zero that ends it.
abbrev pub ended : List ℕ → List ℕ
ended f = f ++ 0 ∷ []

-- The stream is frames, each ended by a zero, and then a rest.
pub record IsSplit (stream : List ℕ) (frames : List (List ℕ)) (rest : List ℕ) : Type 0 where
  pub is : stream ≡ flat_map ended frames ++ rest
  pub frames_zero_free : AreZeroFree frames
  pub rest_zero_free : NoZero rest

-- The answers of a stream that begins with a frame: one for each frame, and one more if the rest
-- has no room and is skipped.
pub record IsAnswered {T : Type 0} (n : ℕ) (own : List ℕ → Answer T → Type 0) (stream : List ℕ)
    (answers : List (Answer T)) (after : State) : Type 0 where
  pub frames : List (List ℕ)
  pub rest : List ℕ
  pub split : IsSplit stream frames rest
  pub parts : List (Answer T)
  pub each : AreAnswersOf n own frames parts
  pub fits : length rest ≤ n → (answers ≡ parts) × (after ≡ holding rest)
  pub over : n < length rest → (answers ≡ parts ++ OverFull ∷ []) × (after ≡ skipping)

-- In a given state, the bytes have these answers and lead to the state `after`. The bytes held are
-- the front of the stream. While a frame is being skipped, there is no answer up to and including
-- its zero.
abbrev pub Answers : {T : Type 0} → ℕ → (List ℕ → Answer T → Type 0) → State → List ℕ
    → List (Answer T) → State → Type 0
Answers n own (holding h) bytes answers after = IsAnswered n own (h ++ bytes) answers after
Answers n own skipping bytes answers after =
    (NoZero bytes × (answers ≡ []) × (after ≡ skipping))
    ⊎ ((q more : List ℕ) × EndsFrame bytes q more × IsAnswered n own more answers after)

-- The answers that one feed returns.
abbrev pub answers_of : {T : Type 0} → FeedResult T → List (Answer T)
answers_of Consumed = []
answers_of (fed.OverFull rest) = OverFull ∷ []
answers_of (fed.DeserError rest) = DeserError ∷ []
answers_of (fed.Success v rest) = Success v ∷ []

-- The bytes of its piece that one feed didn't take.
abbrev pub left_of : {T : Type 0} → FeedResult T → List ℕ
left_of Consumed = []
left_of (fed.OverFull rest) = rest.now
left_of (fed.DeserError rest) = rest.now
left_of (fed.Success v rest) = rest.now
