-- If the text is a scalar and more text, what is left is the end of the scalar and the same text. Each turn drops a byte.
use Rattle.std.proofs.Common.{◌≡◌, ℕ, List, ◌++◌, length}
use Rattle.postcard_value_json_read.specs.Values.{EndsScalar, IsEndOf, IsScalar}
use Rattle.postcard_value_json_read.proofs.skip.after_scalar.Given as goal

abbrev pub invariant-bytes : goal.invariant-bytes
invariant-bytes l = record {
  after : (value : List ℕ) (rest : List ℕ) → IsScalar value → EndsScalar rest → l.fn.text ≡ value ++ rest → (more : List ℕ) × IsScalar more × (l.left ≡ more ++ rest);
  end : IsEndOf l.fn.text l.left;
}

abbrev pub decreases-bytes : goal.decreases-bytes
decreases-bytes l = length l.left
