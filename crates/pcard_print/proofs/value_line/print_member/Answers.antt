-- If there are bytes, the text that is written is the member of the definition.
use Rattle.std.proofs.Common.{arith, ◌<◌, length}
use Rattle.std.proofs.lemmas.Grind.{common_steps}
use Rattle.std.proofs.lemmas.Result.{on_ok_weaker}
use Rattle.pcard_print.proofs.LineLemmas.{member_printed}
use Rattle.pcard_print.proofs.value_line.print_member.Goals as goal

pub returns : goal.returns
returns g c =
    let some : 0 < length c.args.bytes.now = grind (arith, common_steps) in
    on_ok_weaker c.write_member.result (λ h. member_printed _ _ c.args.name.now c.args.bytes.now some h) c.write_member.ensures
