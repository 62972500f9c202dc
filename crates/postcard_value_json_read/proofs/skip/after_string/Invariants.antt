-- If the text is a string and more text, what is left is the end of the string and the same text. `escaped` says whether the last byte was
-- a `\` that escapes the next.
use Rattle.std.proofs.Common.{◌≡◌, ℕ, List, ◌∷◌, ◌++◌, length, ◌<◌, false}
use Rattle.postcard_value_json_read.specs.Values.{AreQuoted, IsEndOf}
use Rattle.postcard_value_json_read.proofs.skip.after_string.Given as goal

abbrev pub invariant-bytes : goal.invariant-bytes
invariant-bytes l = record {
  after : (inside : List ℕ) (rest : List ℕ) → AreQuoted false inside → l.fn.text ≡ 34 ∷ (inside ++ 34 ∷ rest) → (more : List ℕ) × AreQuoted l.escaped more × (l.left ≡ more ++ 34 ∷ rest);
  shorter : length l.left < length l.fn.text;
  end : IsEndOf l.fn.text l.left;
}

abbrev pub decreases-bytes : goal.decreases-bytes
decreases-bytes l = length l.left
