use Rattle.postcard_accumulator.proofs.Splitting as lemmas
use Rattle.postcard_accumulator.proofs.laws.nothing_after_zero.Goals as goal

pub returns : goal.returns
returns g c = lemmas.zero_law g.T.Shaped.shape
