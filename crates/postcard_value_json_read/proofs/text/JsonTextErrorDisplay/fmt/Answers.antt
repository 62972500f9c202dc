-- The message of an error is printed piece by piece.
use Rattle.std.proofs.Common.{◌≡◌, List, [], ◌∷◌, length, ℕ, string_bytes, refl, ap, ◌∙◌, arith}
use Rattle.std.specs.String.{string_len}
use Rattle.std.proofs.lemmas.Grind.{common_steps}
use Rattle.std.specs.Bool.{◌==◌}
use Rattle.std.proofs.Math.Dec.{eqb-suc-zero}
use Rattle.postcard_value_json_read.specs.Printed.{colon_after, is_empty}
use Rattle.postcard_value_json_read.proofs.text.JsonTextErrorDisplay.fmt.Goals as goal

empty_is : (xs : List ℕ) → (length xs == 0) ≡ is_empty xs
empty_is [] = refl
empty_is (x ∷ xs) = eqb-suc-zero (length xs)

pub returns-in-NotAValue-clause-writes : goal.returns-in-NotAValue-clause-writes
returns-in-NotAValue-clause-writes g c =
    let p = c.in-NotAValue.path in
    let size : string_len p ≡ length (string_bytes p) = grind (arith, common_steps) in
    let flag = c.is_empty.ensures ∙ ap (λ n. n == 0) size ∙ empty_is (string_bytes p) in
    let colon : c.colon_after-colon.result.now ≡ colon_after (is_empty (string_bytes p)) = c.colon_after-colon.ensures ∙ ap colon_after flag in
    rw c.in-NotAValue.is (rw colon at c.write.ensures.writes)
