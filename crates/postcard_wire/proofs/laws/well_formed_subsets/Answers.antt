-- The law is a lemma of `WellFormed`, at the sets that the types name.
use Rattle.postcard_wire.proofs.WellFormed.{fewer_well_formed}
use Rattle.postcard_wire.proofs.laws.well_formed_subsets.Goals as goal

pub returns : goal.returns
returns g c = fewer_well_formed g.S.TreeSet.has g.T.TreeSet.has
