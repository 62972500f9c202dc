use Rattle.postcard_accumulator.proofs.Splitting as lemmas
use Rattle.postcard_accumulator.proofs.laws.cut_at_zero.Goals as goal

pub returns : goal.returns
returns g c = lemmas.cut_law g.T.Shaped.shape
