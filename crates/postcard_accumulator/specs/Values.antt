-- The own answer of a frame, for the half of a feed that only decodes it and for a type's values. With that it defines what a feed returns,
-- the answers of a stream and the reading loop.
use Rattle.std.specs.Prelude.{ℕ, List, Option}
use Rattle.std.specs.Borrow.{Bor}
use Rattle.postcard_cobs.specs.Groups.{Groups}
use Rattle.postcard_frame.specs.Frame.{ReadsFrame, HasNoData}
use Rattle.postcard_shape.specs.Shape.{Shape, Grows}
use Rattle.postcard_accumulator.specs.State.{State}
use Rattle.postcard_accumulator.specs.Feeding as feeding
use Rattle.postcard_accumulator.specs.Streams as streams
use Rattle.postcard_accumulator.specs.Reading as reading
use Rattle.postcard_accumulator.specs.declared.answers.FeedResult.{FeedResult}
use Rattle.postcard_accumulator.specs.declared.answers.Answer.{Answer}
use Rattle.postcard_accumulator.specs.declared.answers.Answer.TheVariants.{OverFull, DeserError}
use Rattle.postcard_accumulator.specs.declared.answers.Answer.TheVariants.{Success}
use Rattle.postcard_accumulator.specs.declared.reading.ReadEnd.{ReadEnd}

-- The own answer of a frame that is only decoded: its data, or `DeserError` if it has none.
abbrev pub IsDecoded : List ℕ → Answer (Bor (List ℕ)) → Type 0
IsDecoded f (Success d) = Groups f d.now
IsDecoded f DeserError = HasNoData f
IsDecoded f OverFull = ⊥

-- What the piece p completes.
abbrev pub IsTaken : ℕ → State → List ℕ → FeedResult (Bor (List ℕ)) → State → Type 0
IsTaken n c p result after = feeding.IsFed n IsDecoded c p result after

-- The answer is what a feed returns if its piece completes `taken`, whatever the state, the piece
-- and the room were.
abbrev pub IsReadOf : {T : Type 0} → (List ℕ → Answer T → Type 0) → FeedResult (Bor (List ℕ))
    → FeedResult T → Type 0
IsReadOf own taken answer =
    (n : ℕ) (c : State) (p : List ℕ) (after : State) → IsTaken n c p taken after
    → feeding.IsFed n own c p answer after

-- The frame f has data of which a front spells a tree that the type reads, and v is its value.
abbrev pub IsValueOf : {T : Type 0} → Shape T → List ℕ → T → Type 0
IsValueOf shape f v = ReadsFrame shape.reads shape.value f v

-- The frame f has no value. For a type that grows nothing is said, since an allocation may have
-- failed.
abbrev pub IsRefused : {T : Type 0} → Shape T → List ℕ → Type 0
IsRefused {T} shape f = ¬ Grows shape → (v : T) → IsValueOf shape f v → ⊥

-- The own answer of a frame: its value, or `DeserError` if it has none.
abbrev pub IsOwn : {T : Type 0} → Shape T → List ℕ → Answer T → Type 0
IsOwn shape f (Success v) = IsValueOf shape f v
IsOwn shape f DeserError = IsRefused shape f
IsOwn shape f OverFull = ⊥

-- What is returned for the piece p in any state.
abbrev pub IsFed : {T : Type 0} → ℕ → Shape T → State → List ℕ → FeedResult T → State → Type 0
IsFed n shape c p result after = feeding.IsFed n (IsOwn shape) c p result after

-- In a given state, the bytes have these answers and lead to the state `after`.
abbrev pub Answers : {T : Type 0} → ℕ → Shape T → State → List ℕ → List (Answer T) → State → Type 0
Answers n shape c bytes answers after = streams.Answers n (IsOwn shape) c bytes answers after

-- The answers added are those of all bytes that were read, except for the bytes that weren't fed.
abbrev pub IsReading : {T : Type 0} → ℕ → Shape T → ℕ → Option (List ℕ) → Option (List ℕ) → List ℕ
    → State → State → List (Answer T) → List (Answer T) → ReadEnd → Type 0
IsReading n shape = reading.IsReading n (IsOwn shape)
