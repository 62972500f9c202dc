use Rattle.postcard_accumulator.proofs.Alike as lemmas
use Rattle.postcard_accumulator.proofs.laws.damage_stays.Goals as goal

pub returns : goal.returns
returns g c = lemmas.damage_law g.T.Shaped.shape
