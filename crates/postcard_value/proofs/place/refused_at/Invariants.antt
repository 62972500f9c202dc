-- The current part is a part of the value, and reading the value stops where reading this part stops.
use Rattle.std.proofs.Common.{◌≡◌, ◌+◌, ◌++◌, List, ℕ, length}
use Rattle.postcard_schema.specs.Bounds.{depth}
use Rattle.postcard_value.specs.{HasNoFront, Step, type_of}
use Rattle.postcard_value.specs.Refused.{StopsAt}
use Rattle.postcard_value.proofs.place.refused_at.Given as goal

abbrev pub invariant-loop-steps : goal.invariant-loop-steps
invariant-loop-steps l =
    (done : List ℕ) × (l.bytes ≡ done ++ l.rest) × (HasNoFront l.schema l.bytes → HasNoFront l.part l.rest)
    × ((path : List Step) (offset : ℕ) → StopsAt l.part l.rest path offset → StopsAt l.schema l.bytes (l.steps.items ++ path) (length done + offset))

abbrev pub decreases-loop-steps : goal.decreases-loop-steps
decreases-loop-steps l = depth (type_of l.part)
