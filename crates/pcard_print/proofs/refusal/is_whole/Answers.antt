-- A path of two steps or more prints at least one character.
use Rattle.std.proofs.Common.{◌≤◌, length}
use Rattle.pcard_print.proofs.PathLemmas.{more_steps}
use Rattle.pcard_print.proofs.refusal.is_whole.Goals as goal

pub returns-in_default-clause-part : goal.returns-in_default-clause-part
returns-in_default-clause-part c =
    let two : 2 ≤ length c.args.path.now.steps.items = rw c.as_slice.ensures.value at c.in_default.len_at_least in λ _.
    more_steps c.args.path.now.steps.items two
