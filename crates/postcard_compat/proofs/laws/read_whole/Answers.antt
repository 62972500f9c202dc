-- The law is a lemma of `Consequences`.
use Rattle.postcard_compat.proofs.Consequences.{read_whole}
use Rattle.postcard_compat.proofs.laws.read_whole.Goals as goal

pub returns : goal.returns
returns c = read_whole
