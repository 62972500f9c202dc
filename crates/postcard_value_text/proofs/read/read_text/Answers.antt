-- The clauses of `read_text` are those of `read_whole`.
use Rattle.postcard_value_text.proofs.read.read_text.Goals as goal

pub returns-in-Ok-clause-spelled : goal.returns-in-Ok-clause-spelled
returns-in-Ok-clause-spelled c = rw c.as_bytes-rest.ensures.value at c.in-Ok.ensures.spelled

pub returns-in-Ok-clause-accepted : goal.returns-in-Ok-clause-accepted
returns-in-Ok-clause-accepted c = λ names v r h. c.in-Ok.ensures.accepted names v r (rw c.as_bytes-rest.ensures.value h)

pub returns-in-Err-clause-accepted : goal.returns-in-Err-clause-accepted
returns-in-Err-clause-accepted c = λ names v r h. c.error_in.ensures.memory (c.in-Err.ensures.accepted names v r (rw c.as_bytes-rest.ensures.value h))
