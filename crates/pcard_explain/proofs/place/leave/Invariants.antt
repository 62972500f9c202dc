-- The parts that are left have the same number of steps around each line that isn't deeper.
use Rattle.std.proofs.Common.{◌≡◌, ◌≤◌, ℕ, length}
use Rattle.pcard_explain.specs.Places.{steps_in}
use Rattle.pcard_explain.proofs.place.leave.Given as goal

abbrev pub invariant-parts : goal.invariant-parts
invariant-parts l = (d : ℕ) → d ≤ l.depth → steps_in l.parts.items d ≡ steps_in l.initial.parts.items d

abbrev pub decreases-parts : goal.decreases-parts
decreases-parts l = length l.parts.items
