-- The laws of streams, as statements. The functions of `src/laws.rt` have them as contracts.
use Rattle.std.specs.Prelude.{◌≡◌, ℕ, ◌⊎◌, List, [], ◌∷◌, ◌++◌}
use Rattle.postcard_cobs.specs.Groups.{NoZero}
use Rattle.postcard_shape.specs.Shape.{Shape, Grows}
use Rattle.postcard_accumulator.specs.State.{State, holding, held_of}
use Rattle.postcard_accumulator.specs.Streams.{IsSplit, answers_of, left_of}
use Rattle.postcard_accumulator.specs.Values.{IsFed, Answers}
use Rattle.postcard_accumulator.specs.declared.answers.FeedResult.{FeedResult}
use Rattle.postcard_accumulator.specs.declared.answers.Answer.{Answer}
use Rattle.postcard_accumulator.specs.declared.answers.Answer.TheVariants.{OverFull, DeserError}
use Rattle.postcard_accumulator.specs.declared.answers.Answer.TheVariants.{Success}

-- One feed returns the answers of the front that it takes of its piece.
abbrev pub FeedsAnswer : {T : Type 0} → Shape T → Type 0
FeedsAnswer {T} shape =
    (n : ℕ) (c d : State) (p : List ℕ) (r : FeedResult T)
    → NoZero (held_of c) → IsFed n shape c p r d
    → (eaten : List ℕ) × (p ≡ eaten ++ left_of r) × Answers n shape c eaten (answers_of r) d

-- The answers of calls in a row, one list after the other, are answers of the joined stream.
abbrev pub Joined : {T : Type 0} → Shape T → Type 0
Joined {T} shape =
    (n : ℕ) (c d e : State) (x y : List ℕ) (a b : List (Answer T))
    → Answers n shape c x a d → Answers n shape d y b e → Answers n shape c (x ++ y) (a ++ b) e

-- Two answers look alike: they are of one kind, and their values look alike.
abbrev pub IsAlike : {T : Type 0} → Shape T → Answer T → Answer T → Type 0
IsAlike shape OverFull OverFull = Unit {0}
IsAlike shape OverFull DeserError = ⊥
IsAlike shape OverFull (Success w) = ⊥
IsAlike shape DeserError OverFull = ⊥
IsAlike shape DeserError DeserError = Unit {0}
IsAlike shape DeserError (Success w) = ⊥
IsAlike shape (Success v) OverFull = ⊥
IsAlike shape (Success v) DeserError = ⊥
IsAlike shape (Success v) (Success w) = shape.same v w

-- Two lists of answers are equally long, and their elements look alike one by one.
abbrev pub AreAlike : {T : Type 0} → Shape T → List (Answer T) → List (Answer T) → Type 0
AreAlike shape [] [] = Unit {0}
AreAlike shape [] (y ∷ ys) = ⊥
AreAlike shape (x ∷ xs) [] = ⊥
AreAlike shape (x ∷ xs) (y ∷ ys) = IsAlike shape x y × AreAlike shape xs ys

-- For a type that doesn't grow, the bytes and the state before them determine the state after them
-- and the answers, except for values that look alike.
abbrev pub AnswersAreOne : {T : Type 0} → Shape T → Type 0
AnswersAreOne {T} shape = ¬ Grows shape →
    (n : ℕ) (c d e : State) (s : List ℕ) (a b : List (Answer T))
    → Answers n shape c s a d → Answers n shape c s b e → AreAlike shape a b × (d ≡ e)

-- There are no bytes, or the last is zero.
abbrev pub EndsInZero : List ℕ → Type 0
EndsInZero s = (s ≡ []) ⊎ ((w : List ℕ) × (s ≡ w ++ 0 ∷ []))

-- After a zero the answers are those of a new accumulator.
abbrev pub CutAtZero : {T : Type 0} → Shape T → Type 0
CutAtZero {T} shape =
    (n : ℕ) (c d : State) (w v : List ℕ) (a : List (Answer T)) → Answers n shape c (w ++ 0 ∷ v) a d
    → (x y : List (Answer T)) × (a ≡ x ++ y) × Answers n shape c (w ++ 0 ∷ []) x (holding [])
    × Answers n shape (holding []) v y d

-- If u and x are each empty or end in a zero, the answers of u, x and v in a row are those of u, of
-- x and of v.
abbrev pub Split : {T : Type 0} → Shape T → Type 0
Split {T} shape =
    (n : ℕ) (d : State) (u x v : List ℕ) (a : List (Answer T)) → EndsInZero u → EndsInZero x
    → Answers n shape (holding []) (u ++ (x ++ v)) a d
    → (b e f : List (Answer T)) × (a ≡ b ++ (e ++ f))
    × Answers n shape (holding []) u b (holding [])
    × Answers n shape (holding []) x e (holding []) × Answers n shape (holding []) v f d

-- So damage that turns x into y and keeps its last zero changes no answer of u or v and not the state at the end. Except for values that
-- look alike, the answers of u, x, v and of u, y, v differ only in those of x and y.
abbrev pub DamageStays : {T : Type 0} → Shape T → Type 0
DamageStays {T} shape = ¬ Grows shape →
    (n : ℕ) (d e : State) (u x y v : List ℕ) (a b : List (Answer T))
    → EndsInZero u → EndsInZero x → EndsInZero y
    → Answers n shape (holding []) (u ++ (x ++ v)) a d
    → Answers n shape (holding []) (u ++ (y ++ v)) b e
    → (front front' here here' after after' : List (Answer T)) × (a ≡ front ++ (here ++ after))
    × (b ≡ front' ++ (here' ++ after')) × AreAlike shape front front' × AreAlike shape after after'
    × Answers n shape (holding []) x here (holding [])
    × Answers n shape (holding []) y here' (holding []) × (d ≡ e)

-- After bytes that end in a zero, nothing is held and nothing is skipped.
abbrev pub NothingAfterZero : {T : Type 0} → Shape T → Type 0
NothingAfterZero {T} shape =
    (n : ℕ) (c d : State) (w : List ℕ) (a : List (Answer T))
    → Answers n shape c (w ++ 0 ∷ []) a d → d ≡ holding []

-- Each stream is frames and a rest, in exactly one way.
abbrev pub FramesAreOne : Type 0
FramesAreOne = (s : List ℕ) →
    ((fs : List (List ℕ)) × (r : List ℕ) × IsSplit s fs r)
    × ((fs gs : List (List ℕ)) (r q : List ℕ)
    → IsSplit s fs r → IsSplit s gs q → (fs ≡ gs) × (r ≡ q))
