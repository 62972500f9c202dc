-- If there are bytes, the pieces that are written are the text that the definition gives them.
use Rattle.std.proofs.Common.{arith, ◌<◌, length}
use Rattle.std.proofs.lemmas.Grind.{common_steps}
use Rattle.std.proofs.lemmas.Result.{on_ok_weaker}
use Rattle.pcard_print.proofs.LineLemmas.{more_appended}
use Rattle.pcard_print.proofs.value_line.print_more.Goals as goal

pub returns : goal.returns
returns g c =
    let some : 0 < length c.args.rest.now = grind (arith, common_steps) in
    on_ok_weaker c.write_hex.result (λ h. more_appended _ _ _ c.args.rest.now _ some c.noun-noun.ensures c.in_ok-write.ensures.bytes h) c.write_hex.ensures
