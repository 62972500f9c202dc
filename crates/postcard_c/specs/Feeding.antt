-- What one feed of an accumulator of C returns and leaves, in the words of `postcard_accumulator`.
use Rattle.std.specs.Prelude.{◌≡◌, ◌≢◌, ℕ, ◌≤◌, ◌⊎◌, List, [], ◌++◌, length, take, drop, IsTrue}
use Rattle.postcard_cobs.specs.Groups.{NoZero, Groups, EndsFrame}
use Rattle.postcard_accumulator.specs.State.{State, holding, skipping, state_of}
use Rattle.postcard_accumulator.specs.Feeding.{EndsFitting, Overflows, IsHeld}
use Rattle.postcard_c.specs.declared.accumulator.Accumulator.{Accumulator}
use Rattle.postcard_c.specs.declared.accumulator.Outcome.{Outcome}

-- What the piece p completes in an accumulator of n bytes that holds h, by the number of the answer. It is as `IsFedHolding` of the crate
-- `postcard_accumulator` with `IsDecoded`. In it `rest` is what is left of the piece, and d is the data of the frame.
pub record Steps (n : ℕ) (h p : List ℕ) (answer : ℕ) (rest d : List ℕ) (after : State) : Type 0 where
  pub named : answer ≤ 3
  pub nothing : answer ≡ 0 → IsHeld n h p after × (rest ≡ [])
  pub frame : answer ≡ 1 → (q : List ℕ) × EndsFitting n h p q rest × Groups (h ++ q) d × (after ≡ holding [])
  pub oversized : answer ≡ 2 → Overflows n h p rest after
  pub damaged : answer ≡ 3 → (q : List ℕ) × EndsFitting n h p q rest × ((e : List ℕ) → Groups (h ++ q) e → ⊥) × (after ≡ holding [])

-- The same in any state, as `IsTaken`: while a frame is being skipped, what follows its zero is taken as
-- by an accumulator that holds nothing.
abbrev pub IsFedRaw : ℕ → State → List ℕ → ℕ → List ℕ → List ℕ → State → Type 0
IsFedRaw n (holding h) p answer rest d after = Steps n h p answer rest d after
IsFedRaw n skipping p answer rest d after =
    (NoZero p × (answer ≡ 0) × (rest ≡ []) × (after ≡ skipping))
    ⊎ ((q more : List ℕ) × EndsFrame p q more × Steps n [] more answer rest d after)

-- What a feed leaves, and C is to leave as it is: the bytes held have room and no zero among them, and
-- while a frame is being skipped there are none.
pub record Stands (a : Accumulator) : Type 0 where
  pub fits : a.held ≤ length a.buffer.now
  pub no_zero : NoZero (take a.held a.buffer.now)
  pub holds_none : IsTrue a.skipping → a.held ≡ 0

-- The state of an accumulator.
abbrev pub state : Accumulator → State
state a = state_of a.skipping (take a.held a.buffer.now)

-- A feed of the piece p turned the accumulator `old` into `new`, and took `taken` bytes of the piece. At
-- answer 1 the data of the frame, of `size` bytes, is at the front of the buffer. At every other answer `size` is 0.
pub record Feeds (old new : Accumulator) (p : List ℕ) (answer taken size : ℕ) : Type 0 where
  pub same_buffer : new.buffer.ghost_name ≡ old.buffer.ghost_name
  pub stands : Stands new
  pub fed : IsFedRaw (length old.buffer.now) (state old) p answer (drop taken p) (take size new.buffer.now) (state new)
  pub within : (taken ≤ length p) × (size ≤ length new.buffer.now)
  pub no_data : answer ≢ 1 → size ≡ 0

-- The outcome of a piece p for a buffer that held h at its front and now is `new`.
pub record Takes (n : ℕ) (before : State) (p new : List ℕ) (o : Outcome) : Type 0 where
  pub fed : IsFedRaw n before p o.answer (drop o.taken p) (take o.size new) (state_of o.skipping (take o.held new))
  pub fits : o.held ≤ length new
  pub no_zero : NoZero (take o.held new)
  pub holds_none : IsTrue o.skipping → o.held ≡ 0
  pub taken_within : o.taken ≤ length p
  pub size_within : o.size ≤ length new
  pub no_data : o.answer ≢ 1 → o.size ≡ 0
