-- A path that isn't empty has `: ` after it.
use Rattle.std.proofs.Common.{◌≡◌, ◌==◌, ◌++◌, false, length, string_bytes, sym, ap, ◌∙◌, arith}
use Rattle.std.specs.Prelude.{codes}
use Rattle.std.specs.String.{string_len}
use Rattle.std.proofs.lemmas.Grind.{common_steps}
use Rattle.postcard_value_json_read.specs.Printed.{expected_text}
use Rattle.pcard_message.proofs.FailureLemmas.{place_then}
use Rattle.pcard_message.proofs.failure.FailureDisplay.fmt.Goals as goal

pub returns-in-BadJson-2-clause-writes : goal.returns-in-BadJson-2-clause-writes
returns-in-BadJson-2-clause-writes g c =
    let p = c.in-BadJson.path in
    let size : string_len p ≡ length (string_bytes p) = grind (arith, common_steps) in
    let filled : (length (string_bytes p) == 0) ≡ false = sym (c.is_empty.ensures ∙ ap (λ n. n == 0) size) ∙ c.if-is_empty.false in
    let same = c.in-BadJson-2.path-is in
    let also : (length (string_bytes c.in-BadJson-2.path) == 0) ≡ false = cc in
    rw (c.in-BadJson-2.is, place_then (string_bytes c.in-BadJson-2.path) (expected_text c.in-BadJson-2.expected ++ codes ": bad value") also)
    c.write-in-BadJson-2.ensures.writes
