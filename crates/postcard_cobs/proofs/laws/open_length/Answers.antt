-- The law is a lemma of `Encoding`.
use Rattle.postcard_cobs.proofs.Encoding as laws
use Rattle.postcard_cobs.proofs.laws.open_length.Goals as goal

pub returns : goal.returns
returns c = laws.open_length
