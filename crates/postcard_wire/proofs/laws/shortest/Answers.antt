-- The laws are lemmas of `Shortest`.
use Rattle.postcard_wire.proofs.Shortest.{least, Spells-canonical}
use Rattle.postcard_wire.proofs.laws.shortest.Goals as goal

pub returns : goal.returns
returns c = record { spelled = Spells-canonical; shortest_or_longer = least }
