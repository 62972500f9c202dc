use Rattle.postcard_accumulator.proofs.Alike as lemmas
use Rattle.postcard_accumulator.proofs.laws.answers_are_one.Goals as goal

pub returns : goal.returns
returns g c = lemmas.alike_law g.T.Shaped.shape
