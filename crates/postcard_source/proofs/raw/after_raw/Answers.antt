use Rattle.std.proofs.Common.{rules}
use Rattle.postcard_source.specs.Steps.{none, more}
use Rattle.postcard_source.proofs.raw.after_raw.Goals as goal

pub loop-init : goal.loop-init
loop-init c = none

pub loop-preserved : goal.loop-preserved
loop-preserved c = more c.loop.invariant (search rules)
