-- An end of a range: the index, and the value.
use Rattle.std.proofs.Common.{arith}
use Rattle.postcard_max.proofs.Greatest.{greatest_of_bound}
use Rattle.postcard_max.proofs.laws.options.Goals as goal

pub returns-clause-bound : goal.returns-clause-bound
returns-clause-bound g c = (greatest_of_bound g.A.MaxSize.limit.greatest, λ r. (tt, (omega arith, r, (omega arith, r, tt))))
