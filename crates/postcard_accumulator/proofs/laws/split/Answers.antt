use Rattle.postcard_accumulator.proofs.Splitting as lemmas
use Rattle.postcard_accumulator.proofs.laws.split.Goals as goal

pub returns : goal.returns
returns g c = lemmas.split_law g.T.Shaped.shape
