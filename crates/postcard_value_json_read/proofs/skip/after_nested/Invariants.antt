-- Let the text be an array or an object and more text. What is left are pieces that close the open brackets, and the same text. Each turn
-- makes it shorter.
use Rattle.std.proofs.Common.{◌≡◌, ℕ, List, ◌++◌, length, ◌≤◌, ◌+◌}
use Rattle.postcard_value_json_read.specs.Values.{IsEndOf, IsNested}
use Rattle.postcard_value_json_read.proofs.ValueLemmas.{Open}
use Rattle.postcard_value_json_read.proofs.skip.after_nested.Given as goal

abbrev pub invariant-pieces : goal.invariant-pieces
invariant-pieces l = record {
  within : (value : List ℕ) (rest : List ℕ) → IsNested value → l.fn.text ≡ value ++ rest → Open l.depth l.left rest;
  few : l.depth + length l.left ≤ length l.fn.text;
  end : IsEndOf l.fn.text l.left;
}

abbrev pub decreases-pieces : goal.decreases-pieces
decreases-pieces l = length l.left
