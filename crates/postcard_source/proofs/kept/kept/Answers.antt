use Rattle.std.proofs.Common.{rules}
use Rattle.postcard_source.specs.Steps.{more}
use Rattle.postcard_source.proofs.Decided.{still}
use Rattle.postcard_source.proofs.kept.kept.Goals as goal

pub steps-init : goal.steps-init
steps-init c = still (cc)

pub steps-preserved : goal.steps-preserved
steps-preserved c = more c.steps.invariant (search rules)
