-- A frame whose code byte is its length has one group, whose data are the bytes after it.
use Rattle.std.proofs.Common.{◌≡◌, ◌<◌, length, arith}
use Rattle.std.proofs.lemmas.Grind.{common_steps}
use Rattle.pcard_message.proofs.ReadingLemmas.{one_group}
use Rattle.pcard_message.proofs.frame.only_group.Goals as goal

pub returns-clause-one : goal.returns-clause-one
returns-clause-one c free =
    let code = c.in-Some.code.now in
    let whole : code ≡ length c.args.frame.now = grind (arith, common_steps) in
    let small : code < 256 = grind (arith, common_steps) in
    one_group c.args.frame.now c.in-Some.content.now code c.in-Some.ensures.cases.0 whole small free
