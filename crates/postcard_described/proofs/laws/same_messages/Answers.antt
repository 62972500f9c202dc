-- Sets of trees with the same encodings have the same messages (`Readers`).
use Rattle.postcard_described.specs.Within.{within_same}
use Rattle.postcard_described.proofs.Readers.{message_inside}
use Rattle.postcard_described.proofs.laws.same_messages.Goals as goal

pub returns-clause-inside : goal.returns-clause-inside
returns-clause-inside g c = message_inside (within_same g.met.T.HasSchema.same g.T.HasSchema.described.within).inside

pub returns-clause-all : goal.returns-clause-all
returns-clause-all g c e = message_inside ((within_same g.met.T.HasSchema.same g.T.HasSchema.described.within).all e)
