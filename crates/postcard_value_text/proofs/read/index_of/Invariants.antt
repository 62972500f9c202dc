-- None of the variants before the loop's place has the name.
use Rattle.std.proofs.Common.{◌≡◌, ◌≢◌, ℕ, ◌<◌, get_or, string_bytes}
use Rattle.postcard_value_text.specs.{Named, Schema}
use Rattle.postcard_value_text.proofs.read.index_of.Given as goal

abbrev pub invariant-loop-i : goal.invariant-loop-i
invariant-loop-i l = (k : ℕ) (n : Named Schema) → k < l.i → n ≡ get_or l.variants.items k n → string_bytes n.name ≢ l.name
