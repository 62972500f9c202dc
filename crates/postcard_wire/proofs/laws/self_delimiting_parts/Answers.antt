-- The laws are lemmas of `Delimited`, at the sets that the types name.
use Rattle.postcard_wire.proofs.Delimited.{end_delimited, then_delimited, group_delimited}
use Rattle.postcard_wire.proofs.laws.self_delimiting_parts.Goals as goal

pub returns : goal.returns
returns g c = record {
  end = end_delimited;
  then = then_delimited g.S.TreeSet.has g.P.PartsSet.have;
  group = group_delimited g.P.PartsSet.have;
}
