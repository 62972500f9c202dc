-- The law is a lemma of `Delimited`, at the sets that the types name.
use Rattle.postcard_wire.proofs.Delimited.{fewer_delimited}
use Rattle.postcard_wire.proofs.laws.self_delimiting_subsets.Goals as goal

pub returns : goal.returns
returns g c = fewer_delimited g.S.TreeSet.has g.T.TreeSet.has
