-- No sign stands before the first part, and `,` before each other one.
use Rattle.std.proofs.Common.{refl}
use Rattle.postcard_value_text.proofs.Fronts.{none_taken}
use Rattle.postcard_value_text.proofs.words.separate.Goals as goal

pub returns-then-is_first-clause-accepted : goal.returns-then-is_first-clause-accepted
returns-then-is_first-clause-accepted c = λ after h. none_taken c.args.rest.now.now after (rw c.if-is_first.true at h)

pub returns-clause-accepted : goal.returns-clause-accepted
returns-clause-accepted c = λ after h. c.expect.ensures.accepted after refl (rw c.if-is_first.false at h)
