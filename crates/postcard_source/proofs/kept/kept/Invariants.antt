-- The tokens so far are those that are kept of what was read.
use Rattle.std.proofs.Common.{◌-◌, [], length}
use Rattle.postcard_source.specs.Steps.{Steps}
use Rattle.postcard_source.specs.Kept.{KeepStep}
use Rattle.postcard_source.proofs.kept.kept.Given as goal

abbrev pub invariant-steps : goal.invariant-steps
invariant-steps l = Steps (KeepStep l.tokens) (0, []) (l.at, l.kept.items)

abbrev pub decreases-steps : goal.decreases-steps
decreases-steps l = length l.tokens - l.at
