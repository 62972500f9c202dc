-- The law is a lemma of `Frames`.
use Rattle.postcard_cobs.proofs.Frames as frames
use Rattle.postcard_cobs.proofs.laws.data_is_one.Goals as goal

pub returns : goal.returns
returns c = frames.data_is_one
