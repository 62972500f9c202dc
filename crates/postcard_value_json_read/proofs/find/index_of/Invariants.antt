-- The JSON has the form of no variant before the loop's place.
use Rattle.std.proofs.Common.{◌≡◌, ℕ, ◌<◌, get_or}
use Rattle.postcard_wire.specs.Tree.{Tree}
use Rattle.postcard_schema.specs.declared.schema.Named.{Named}
use Rattle.postcard_schema.specs.declared.schema.Schema.{Schema}
use Rattle.serde_json.specs.View.{view}
use Rattle.postcard_value_json_read.specs.Accepted.{IsJsonOfVariant}
use Rattle.postcard_value_json_read.proofs.find.index_of.Given as goal

abbrev pub invariant-loop-i : goal.invariant-loop-i
invariant-loop-i l = (k : ℕ) (n : Named Schema) → k < l.i → n ≡ get_or l.variants.items k n → (t : Tree) → IsJsonOfVariant n t (view l.json) → ⊥
