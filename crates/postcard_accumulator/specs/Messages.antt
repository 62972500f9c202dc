-- The answers to a stream of messages, in terms of their values.
use Rattle.std.specs.Prelude.{◌≡◌, ℕ, ◌+◌, ◌<◌, ◌≤◌, List, [], ◌∷◌, ◌++◌, length}
use Rattle.postcard_cobs.specs.Groups.{NoZero, IsMade}
use Rattle.postcard_wire.specs.Spelling.{canonical}
use Rattle.postcard_shape.specs.Shape.{Shape, Grows}
use Rattle.postcard_accumulator.specs.State.{State, holding}
use Rattle.postcard_accumulator.specs.Streams.{ended}
use Rattle.postcard_accumulator.specs.Values.{Answers}
use Rattle.postcard_accumulator.specs.declared.answers.Answer.{Answer}
use Rattle.postcard_accumulator.specs.declared.answers.Answer.TheVariants.{OverFull, DeserError}
use Rattle.postcard_accumulator.specs.declared.answers.Answer.TheVariants.{Success}

-- What a sender puts on a stream: a value and its frame, with the frame's zero; or oversized bytes,
-- after which a zero is sent.
pub data Sent (T : Type 0) : Type 0 where
  message : T → List ℕ → Sent T
  oversized : List ℕ → Sent T

-- The bytes of what is sent, in order.
abbrev pub stream_of : {T : Type 0} → List (Sent T) → List ℕ
stream_of [] = []
stream_of (message v frame ∷ more) = frame ++ stream_of more
stream_of (oversized f ∷ more) = ended f ++ stream_of more

-- Each message's frame is the made frame of the canonical encoding of a value that fits, and has room. What is oversized has no zero, and
-- with the zero that ends it no room.
abbrev pub AreSent : {T : Type 0} → ℕ → Shape T → List (Sent T) → Type 0
AreSent n shape [] = Unit {0}
AreSent n shape (message v frame ∷ more) =
    shape.fits v × IsMade (canonical (shape.tree v)) frame × (length frame ≤ n)
    × AreSent n shape more
AreSent n shape (oversized f ∷ more) = NoZero f × (n < length f + 1) × AreSent n shape more

-- The answers: for each message a value that looks like it, and for what is oversized `OverFull`,
-- in order. `DeserError` comes for a message only if its type grows: memory was refused.
abbrev pub Arrive : {T : Type 0} → Shape T → List (Sent T) → List (Answer T) → Type 0
Arrive shape [] [] = Unit {0}
Arrive shape [] (a ∷ rest) = ⊥
Arrive shape (message v frame ∷ more) [] = ⊥
Arrive shape (message v frame ∷ more) (Success w ∷ rest) = shape.same w v × Arrive shape more rest
Arrive shape (message v frame ∷ more) (DeserError ∷ rest) =
    (¬ ¬ Grows shape) × Arrive shape more rest
Arrive shape (message v frame ∷ more) (OverFull ∷ rest) = ⊥
Arrive shape (oversized f ∷ more) [] = ⊥
Arrive shape (oversized f ∷ more) (OverFull ∷ rest) = Arrive shape more rest
Arrive shape (oversized f ∷ more) (Success w ∷ rest) = ⊥
Arrive shape (oversized f ∷ more) (DeserError ∷ rest) = ⊥

-- Messages arrive in order, whatever oversized frames are between them, and nothing is held after
-- them. The answers of a stream don't depend on how it is cut.
abbrev pub MessagesArrive : {T : Type 0} → Shape T → Type 0
MessagesArrive {T} shape =
    (n : ℕ) (sent : List (Sent T)) (a : List (Answer T)) (after : State) → AreSent n shape sent
    → Answers n shape (holding []) (stream_of sent) a after
    → Arrive shape sent a × (after ≡ holding [])
