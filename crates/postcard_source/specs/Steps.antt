-- States that lead to one another, step by step.
use Rattle.std.specs.Prelude.{ℕ, ◌<◌}

-- Zero or more steps lead from the start to the state.
pub data Steps {S : Type 0} (Step : S → S → Type 0) (start : S) : S → Type 0 where
  none : Steps Step start start
  more : {s t : S} → Steps Step start s → Step s t → Steps Step start t

-- The steps lead to the first state whose number is 0, in which `rest` is left.
abbrev pub StepsToZero : {X : Type 0} → (ℕ × X → ℕ × X → Type 0) → ℕ × X → X → Type 0
StepsToZero {X} Step start rest = (last : ℕ × X) × Steps (λ s t. Step s t × (0 < t.0)) start last × Step last (0, rest)
