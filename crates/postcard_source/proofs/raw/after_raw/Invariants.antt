-- At no byte so far does the literal end: by a quote, which is the byte 34, and the `#`.
use Rattle.std.proofs.Common.{◌≡◌, List, ℕ, ◌∷◌, ◌++◌}
use Rattle.postcard_source.specs.Steps.{Steps}
use Rattle.postcard_source.proofs.raw.after_raw.Given as goal

abbrev pub invariant-loop : goal.invariant-loop
invariant-loop l = Steps (λ a b. ((letter : ℕ) × (a ≡ letter ∷ b)) × ((after : List ℕ) → a ≡ 34 ∷ l.hashes ++ after → ⊥)) l.text l.rest
