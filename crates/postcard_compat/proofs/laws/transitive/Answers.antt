-- The clauses are lemmas of `Consequences`.
use Rattle.postcard_compat.proofs.Consequences.{reflexive, transitive}
use Rattle.postcard_compat.proofs.laws.transitive.Goals as goal

pub returns-clause-reflexive : goal.returns-clause-reflexive
returns-clause-reflexive c = reflexive

pub returns-clause-transitive : goal.returns-clause-transitive
returns-clause-transitive c = transitive
