-- The bytes before `rest` are those of the parts before the loop's place.
use Rattle.std.proofs.Common.{◌≡◌, ◌++◌, List, ℕ, take}
use Rattle.postcard_value.specs.Fronts.{SpellsParts}
use Rattle.postcard_value.proofs.place.enter_tuple.Given as goal

abbrev pub invariant-loop-i : goal.invariant-loop-i
invariant-loop-i l = (done : List ℕ) × SpellsParts (take l.i l.part-items) done × (l.bytes ≡ done ++ l.rest) × (l.path.items ≡ l.fn.path.items)
