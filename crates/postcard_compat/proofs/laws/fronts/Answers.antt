-- The clauses are lemmas of `Fronts`.
use Rattle.postcard_compat.proofs.Fronts.{none_front, then_front, group_front}
use Rattle.postcard_compat.proofs.laws.fronts.Goals as goal

pub returns-clause-none : goal.returns-clause-none
returns-clause-none c = none_front

pub returns-clause-more : goal.returns-clause-more
returns-clause-more c = then_front

pub returns-clause-grouped : goal.returns-clause-grouped
returns-clause-grouped c = group_front
