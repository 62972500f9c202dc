-- The laws are lemmas of `Delimited`, at the set that the type names.
use Rattle.postcard_wire.proofs.Delimited.{option_delimited, seq_delimited, array_delimited}
use Rattle.postcard_wire.proofs.laws.self_delimiting_containers.Goals as goal

pub returns : goal.returns
returns g c = record {
  option = option_delimited g.S.TreeSet.has;
  list = seq_delimited g.S.TreeSet.has;
  array = λ n. array_delimited n g.S.TreeSet.has;
}
