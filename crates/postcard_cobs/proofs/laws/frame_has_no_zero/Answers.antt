-- The law is a lemma of `Parts`.
use Rattle.postcard_cobs.proofs.Parts as laws
use Rattle.postcard_cobs.proofs.laws.frame_has_no_zero.Goals as goal

pub returns : goal.returns
returns c = laws.frame_has_no_zero
