-- The law is a lemma of `Made`.
use Rattle.postcard_cobs.proofs.Made as laws
use Rattle.postcard_cobs.proofs.laws.made_is_made.Goals as goal

pub returns : goal.returns
returns c = laws.made_is_made
