-- If there are bytes, the text is that of the definition.
use Rattle.std.proofs.Common.{◌<◌, ◌∙◌, length, arith}
use Rattle.std.proofs.lemmas.Grind.{common_steps}
use Rattle.pcard_call.proofs.WordLemmas.{if_ok}
use Rattle.pcard_compat.proofs.TextLemmas.{more_said}
use Rattle.pcard_compat.proofs.text.more_text.Goals as goal

pub returns : goal.returns
returns c =
    let some : 0 < length c.args.rest.now = grind (arith, common_steps) in
    if_ok c.format.result (λ text h. h ∙ more_said c.args.rest.now _ _ some c.noun-noun.ensures c.in_ok-digits.ensures) c.format.ensures.ok
