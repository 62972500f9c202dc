-- The laws are lemmas of `WellFormed`, at the set that the type names.
use Rattle.postcard_wire.proofs.WellFormed.{option_well_formed, seq_well_formed, array_well_formed}
use Rattle.postcard_wire.proofs.laws.well_formed_containers.Goals as goal

pub returns : goal.returns
returns g c = record {
  option = option_well_formed g.S.TreeSet.has;
  list = seq_well_formed g.S.TreeSet.has;
  array = λ n. array_well_formed n g.S.TreeSet.has;
}
