use Rattle.postcard_source.proofs.Decided.{unless}
use Rattle.postcard_source.proofs.Limits.{limits, no_limit}
use Rattle.postcard_source.proofs.kept.is_scope.Goals as goal

pub returns-in-Some-after_limit : goal.returns-in-Some-after_limit
returns-in-Some-after_limit c =
    limits c.args.tokens.now c.args.at c.in-Some.inner c.in-Some-after_limit.after _ c.in-Some.ensures.found.0 c.in-Some.ensures.found.1
    (unless c.is_at.ensures c.if-is_at.false) c.in-Some-after_limit.ensures.found.0 c.in-Some-after_limit.ensures.found.1 c.is_at-in-Some-after_limit.ensures

pub returns-in-None : goal.returns-in-None
returns-in-None c =
    no_limit c.args.tokens.now c.args.at c.in-Some.inner c.in-Some.ensures.found.1 (unless c.is_at.ensures c.if-is_at.false) c.in-None.ensures.none
