-- An array that fits is one that its type reads.
use Rattle.std.proofs.Common.{rules}
use Rattle.postcard_shape.specs.Lists.{array}
use Rattle.postcard_max.proofs.values.fixed.ArrayMaxSize.in_forms.Goals as goal

pub returns-clause-in_forms : goal.returns-clause-in_forms
returns-clause-in_forms g c = ((array g.row.N g.T.Shaped.shape).again c.args.self.now (search rules)).0
