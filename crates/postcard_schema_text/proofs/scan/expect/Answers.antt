-- The clauses of `expect` are those of `take`.
use Rattle.postcard_schema_text.proofs.scan.expect.Goals as goal

pub returns-clause-none : goal.returns-clause-none
returns-clause-none c = c.take.ensures.none c.if-take.false

pub returns-then-take-clause-taken : goal.returns-then-take-clause-taken
returns-then-take-clause-taken c = c.take.ensures.taken c.if-take.true
