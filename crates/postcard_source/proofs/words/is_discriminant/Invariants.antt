-- From the index up to the token, no discriminant ends, and no `=` begins one.
use Rattle.std.proofs.Common.{ℕ, ◌+◌, ◌≤◌}
use Rattle.std.specs.Prelude.{codes}
use Rattle.postcard_source.specs.Words.{EndsDiscriminant, IsSign}
use Rattle.postcard_source.proofs.words.is_discriminant.Given as goal

abbrev pub invariant-back : goal.invariant-back
invariant-back l = (l.index ≤ l.at + 1) × ((k : ℕ) → l.index ≤ k → k ≤ l.at → EndsDiscriminant l.tokens k → ⊥)
    × ((k : ℕ) → l.index ≤ k → k ≤ l.at → IsSign 1 (codes "=") l.tokens k → ⊥)

abbrev pub decreases-back : goal.decreases-back
decreases-back l = l.index
