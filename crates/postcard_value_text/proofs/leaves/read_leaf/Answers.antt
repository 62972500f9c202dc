-- The clauses of `read_leaf` are those of `read_value`.
use Rattle.postcard_value_text.proofs.leaves.read_leaf.Goals as goal

pub returns-clause-accepted : goal.returns-clause-accepted
returns-clause-accepted c = λ t after r h goes. c.read_value.ensures.accepted tt t after r h goes
