-- The elements before the current one fit.
use Rattle.std.proofs.Common.{take}
use Rattle.postcard_shape.specs.Lists.{AllFit}
use Rattle.postcard_max.proofs.values.fixed.each_in_forms.Given as goal

abbrev pub invariant-loop-item : goal.invariant-loop-item
invariant-loop-item g l = AllFit g.T.Shaped.shape.fits (take l.item-index l.items)
