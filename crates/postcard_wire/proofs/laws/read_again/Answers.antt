-- The law is a lemma of `WellFormed`, at the set that the type names.
use Rattle.postcard_wire.proofs.WellFormed.{read_again}
use Rattle.postcard_wire.proofs.laws.read_again.Goals as goal

pub returns : goal.returns
returns g c = read_again g.S.TreeSet.has
