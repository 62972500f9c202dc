-- The law is a lemma of `Consequences`.
use Rattle.postcard_compat.proofs.Consequences.{never_misread}
use Rattle.postcard_compat.proofs.laws.never_misread.Goals as goal

pub returns : goal.returns
returns c = never_misread
