-- A vector that fits is one that its type reads.
use Rattle.std.proofs.Common.{rules}
use Rattle.postcard_shape.specs.Lists.{few}
use Rattle.postcard_max.proofs.values.fixed.ArrayVecMaxSize.in_forms.Goals as goal

pub returns-clause-in_forms : goal.returns-clause-in_forms
returns-clause-in_forms g c = ((few g.row.CAP g.T.Shaped.shape).again c.args.self.now.items (search rules)).0
