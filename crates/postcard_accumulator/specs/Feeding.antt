-- What a feed of a piece returns, and what the accumulator carries after it, where `own` says which
-- answer a frame that has room may have. An oversized frame is skipped through the zero that ends
-- it, and has one answer.
use Rattle.std.specs.Prelude.{◌≡◌, ℕ, ◌+◌, ◌<◌, ◌≤◌, ◌⊎◌, List, [], ◌++◌, length}
use Rattle.postcard_cobs.specs.Groups.{NoZero, EndsFrame}
use Rattle.postcard_accumulator.specs.State.{State, holding, skipping}
use Rattle.postcard_accumulator.specs.declared.answers.FeedResult.{FeedResult}
use Rattle.postcard_accumulator.specs.declared.answers.FeedResult.TheVariants.{Consumed, OverFull}
use Rattle.postcard_accumulator.specs.declared.answers.FeedResult.TheVariants.{DeserError, Success}
use Rattle.postcard_accumulator.specs.declared.answers.Answer.{Answer}
use Rattle.postcard_accumulator.specs.declared.answers.Answer.TheVariants as answer

-- The piece p ends the frame h ++ q, which has room with its zero, and `rest` follows in p.
abbrev pub EndsFitting : ℕ → List ℕ → List ℕ → List ℕ → List ℕ → Type 0
EndsFitting n h p q rest = EndsFrame p q rest × (length h + length q + 1 ≤ n)

-- The piece p ends a frame that has no room; or p has no zero and no room after h, and the frame is
-- skipped from now on.
abbrev pub Overflows : ℕ → List ℕ → List ℕ → List ℕ → State → Type 0
Overflows n h p rest after =
    ((q : List ℕ) × EndsFrame p q rest × (n < length h + length q + 1) × (after ≡ holding []))
    ⊎ (NoZero p × (n < length h + length p) × (rest ≡ []) × (after ≡ skipping))

-- The piece p has no zero, has room after h, and is held.
abbrev pub IsHeld : ℕ → List ℕ → List ℕ → State → Type 0
IsHeld n h p after = NoZero p × (length h + length p ≤ n) × (after ≡ holding (h ++ p))

-- What is returned for the piece p by an accumulator of n bytes that holds h.
abbrev pub IsFedHolding : {T : Type 0} → ℕ → (List ℕ → Answer T → Type 0) → List ℕ → List ℕ
    → FeedResult T → State → Type 0
IsFedHolding n own h p Consumed after = IsHeld n h p after
IsFedHolding n own h p (OverFull rest) after = Overflows n h p rest.now after
IsFedHolding n own h p (DeserError rest) after =
    (q : List ℕ) × EndsFitting n h p q rest.now × own (h ++ q) answer.DeserError
    × (after ≡ holding [])
IsFedHolding n own h p (Success v rest) after =
    (q : List ℕ) × EndsFitting n h p q rest.now × own (h ++ q) (answer.Success v)
    × (after ≡ holding [])

-- What is returned for the piece p in any state: while a frame is being skipped, what follows its
-- zero is taken as by an accumulator that holds nothing.
abbrev pub IsFed : {T : Type 0} → ℕ → (List ℕ → Answer T → Type 0) → State → List ℕ
    → FeedResult T → State → Type 0
IsFed n own (holding h) p result after = IsFedHolding n own h p result after
IsFed n own skipping p result after =
    (NoZero p × (result ≡ Consumed) × (after ≡ skipping))
    ⊎ ((q more : List ℕ) × EndsFrame p q more × IsFedHolding n own [] more result after)
