use Rattle.postcard_accumulator.proofs.Arriving as lemmas
use Rattle.postcard_accumulator.proofs.laws.messages_arrive.Goals as goal

pub returns : goal.returns
returns g c = lemmas.messages_law g.T.Shaped.shape
