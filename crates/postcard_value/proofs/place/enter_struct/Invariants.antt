-- The bytes before `rest` are those of the fields before the loop's place.
use Rattle.std.proofs.Common.{◌≡◌, ◌++◌, List, ℕ, take}
use Rattle.postcard_schema.specs.Meaning.{contents}
use Rattle.postcard_value.specs.Fronts.{SpellsParts}
use Rattle.postcard_value.proofs.place.enter_struct.Given as goal

abbrev pub invariant-loop-field : goal.invariant-loop-field
invariant-loop-field l = (done : List ℕ) × SpellsParts (contents (take l.field-index l.field-items)) done × (l.bytes ≡ done ++ l.rest) ×
    (l.path.items ≡ l.fn.path.items)
