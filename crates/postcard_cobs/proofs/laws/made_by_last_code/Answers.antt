-- The law is a lemma of `Parts`.
use Rattle.postcard_cobs.proofs.Parts as laws
use Rattle.postcard_cobs.proofs.laws.made_by_last_code.Goals as goal

pub returns : goal.returns
returns c = laws.made_by_last_code
