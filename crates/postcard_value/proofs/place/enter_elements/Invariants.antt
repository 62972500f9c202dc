-- The bytes before `rest` are those of the elements before the loop's place.
use Rattle.std.proofs.Common.{◌≡◌, ◌++◌, List, ℕ}
use Rattle.postcard_schema.specs.Meaning.{type_of}
use Rattle.postcard_value.specs.Fronts.{SpellsEach}
use Rattle.postcard_value.proofs.place.enter_elements.Given as goal

abbrev pub invariant-loop-i : goal.invariant-loop-i
invariant-loop-i l = (done : List ℕ) × SpellsEach (type_of l.element) l.i done × (l.bytes ≡ done ++ l.rest) × (l.path.items ≡ l.fn.path.items)
