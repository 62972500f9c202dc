use Rattle.std.proofs.Common.{inr, rules}
use Rattle.pcard_impl.proofs.command.answer.Goals as goal

pub returns-in-Ok-and-clause-printed : goal.returns-in-Ok-and-clause-printed
returns-in-Ok-and-clause-printed g c = λ _. (_, c.in-Ok.ensures, search rules)

pub returns-clause-told : goal.returns-clause-told
returns-clause-told g c = λ _. inr (c.in-Err.failure, c.tell.ensures)
