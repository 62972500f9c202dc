-- The tree that was written is one of the schema, so the host reads it and writes the same bytes (`Readers`).
use Rattle.postcard_described.specs.Within.{within_same}
use Rattle.postcard_described_host.proofs.Readers.{written_agrees, written_back}
use Rattle.postcard_described_host.proofs.laws.host_reads_written.Goals as goal

pub returns-clause-same_tree : goal.returns-clause-same_tree
returns-clause-same_tree g c = written_agrees g.T.Shaped.shape g.T.HasSchema.described.message (within_same g.met.T.HasSchema.same g.T.HasSchema.described.within).inside

pub returns-clause-writes_back : goal.returns-clause-writes_back
returns-clause-writes_back g c = written_back g.T.Shaped.shape g.T.HasSchema.described.message (within_same g.met.T.HasSchema.same g.T.HasSchema.described.within).inside
