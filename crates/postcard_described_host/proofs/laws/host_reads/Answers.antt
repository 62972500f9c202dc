-- Two readers of sets of trees with the same encodings read the same messages (`Readers`).
use Rattle.postcard_described.specs.Within.{within_same}
use Rattle.postcard_described_host.proofs.Readers.{all_agree, values_agree}
use Rattle.postcard_described_host.proofs.laws.host_reads.Goals as goal

pub returns-clause-agree_on_values : goal.returns-clause-agree_on_values
returns-clause-agree_on_values g c = values_agree g.T.Shaped.shape g.T.HasSchema.described.message (within_same g.met.T.HasSchema.same g.T.HasSchema.described.within).inside

pub returns-clause-agree_if_exact : goal.returns-clause-agree_if_exact
returns-clause-agree_if_exact g c = all_agree g.T.Shaped.shape g.T.HasSchema.described.message g.T.HasSchema.described.exact (within_same g.met.T.HasSchema.same g.T.HasSchema.described.within)
