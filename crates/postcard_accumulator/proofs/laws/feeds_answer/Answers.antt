use Rattle.postcard_accumulator.specs.Values.{IsOwn}
use Rattle.postcard_accumulator.proofs.Feeding as lemmas
use Rattle.postcard_accumulator.proofs.laws.feeds_answer.Goals as goal

pub returns : goal.returns
returns g c = λ n. lemmas.feeds_law n (IsOwn g.T.Shaped.shape)
