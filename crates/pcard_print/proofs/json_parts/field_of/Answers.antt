-- The member is the text that the definition gives the path.
use Rattle.std.proofs.Common.{◌<◌, ◌∙◌, length, arith}
use Rattle.std.proofs.lemmas.Grind.{common_steps}
use Rattle.pcard_print.proofs.LineLemmas.{field_shown}
use Rattle.pcard_print.proofs.json_parts.field_of.Goals as goal

pub returns : goal.returns
returns c =
    let some : 0 < length c.args.path.now = grind (arith, common_steps) in
    c.in_ok-field.ensures.ok ∙ rw c.in_ok-name.ensures (field_shown c.args.path.now some)
