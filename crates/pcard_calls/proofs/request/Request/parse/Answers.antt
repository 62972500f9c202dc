-- Words that are misused, or whose TYPE stands for nothing, are no request.
use Rattle.pcard_calls.proofs.RequestLemmas.{misused, unknown}
use Rattle.pcard_calls.proofs.request.Request.parse.Goals as goal

pub returns-in-Err-clause-none : goal.returns-in-Err-clause-none
returns-in-Err-clause-none c = misused _ c.in-Err.misuse c.in-Err.ensures.misuse

pub returns-in-None-clause-none : goal.returns-in-None-clause-none
returns-in-None-clause-none c = unknown _ _ _ _ c.in-Ok.ensures.call c.in-None.ensures.none
