-- The law is a lemma of `SplitLemmas`.
use Rattle.pcard_explain.proofs.SplitLemmas.{parted_after_value}
use Rattle.pcard_explain.proofs.laws.parts_after_value.Goals as goal

pub returns : goal.returns
returns c = parted_after_value
