-- The law is the lemma of `Own` on frames of values.
use Rattle.postcard_crc.proofs.Own.{message_law}
use Rattle.postcard_crc.proofs.frames.laws.message_arrives.Goals as goal

pub returns : goal.returns
returns g c = message_law g.T.Shaped.shape
