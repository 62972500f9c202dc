-- The laws are lemmas of `WellFormed`, at the sets that the types name.
use Rattle.postcard_wire.proofs.WellFormed.{end_well_formed, then_well_formed, group_well_formed}
use Rattle.postcard_wire.proofs.laws.well_formed_parts.Goals as goal

pub returns : goal.returns
returns g c = record {
  end = end_well_formed;
  then = then_well_formed g.S.TreeSet.has g.P.PartsSet.have;
  group = group_well_formed g.P.PartsSet.have;
}
