use Rattle.postcard_accumulator.specs.Values.{IsOwn}
use Rattle.postcard_accumulator.proofs.Joining as lemmas
use Rattle.postcard_accumulator.proofs.laws.joined.Goals as goal

pub returns : goal.returns
returns g c = λ n. lemmas.joined_law n (IsOwn g.T.Shaped.shape)
