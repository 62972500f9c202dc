-- The law is the lemma of `Own` on damaged frames.
use Rattle.postcard_crc.proofs.Own.{damage_law}
use Rattle.postcard_crc.proofs.frames.laws.damage_refused.Goals as goal

pub returns : goal.returns
returns g c = damage_law g.T.Shaped.shape
