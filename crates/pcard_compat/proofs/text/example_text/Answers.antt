-- The pieces that are joined are the text of the example.
use Rattle.std.proofs.Common.{string_bytes, ap, ◌∙◌}
use Rattle.hex.specs.Hex.{encode_lower}
use Rattle.pcard_call.proofs.WordLemmas.{if_ok}
use Rattle.pcard_compat.proofs.text.example_text.Goals as goal

pub returns : goal.returns
returns c =
    let digits = c.in_ok-digits.ensures ∙ ap encode_lower c.as_slice.ensures.value in
    rw c.in-Some.is
    (if_ok c.format.result (λ text h. (string_bytes c.in_ok-shown.shown, string_bytes c.in_ok-reading.reading, c.in_ok-shown.ensures, c.in_ok-reading.ensures, h))
    (rw (c.name-name.ensures, digits) at c.format.ensures.ok))
