-- The clauses of `expect` are those of `take`.
use Rattle.postcard_value_text.proofs.Fronts.{one_rest}
use Rattle.postcard_value_text.proofs.words.expect.Goals as goal

pub returns-then-take-clause-accepted : goal.returns-then-take-clause-accepted
returns-then-take-clause-accepted c = λ after black h. one_rest c.args.byte c.args.rest.now.now c.take.new.rest.now after black (c.take.ensures.taken c.if-take.true) h

pub returns-clause-accepted : goal.returns-clause-accepted
returns-clause-accepted c = λ after black h. c.take.ensures.none c.if-take.false black after h
