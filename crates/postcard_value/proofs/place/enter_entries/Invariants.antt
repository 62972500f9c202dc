-- The bytes before `rest` are those of the entries before the loop's place.
use Rattle.std.proofs.Common.{◌≡◌, ◌++◌, List, ℕ}
use Rattle.postcard_schema.specs.Meaning.{entry_of, type_of}
use Rattle.postcard_value.specs.Fronts.{SpellsEach}
use Rattle.postcard_value.proofs.place.enter_entries.Given as goal

abbrev pub invariant-loop-i : goal.invariant-loop-i
invariant-loop-i l = (done : List ℕ) × SpellsEach (entry_of (type_of l.key) (type_of l.value)) l.i done × (l.bytes ≡ done ++ l.rest) ×
    (l.path.items ≡ l.fn.path.items)
