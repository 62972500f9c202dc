-- The law is a lemma of `Parts`.
use Rattle.postcard_cobs.proofs.Parts as laws
use Rattle.postcard_cobs.proofs.laws.open_by_parts.Goals as goal

pub returns : goal.returns
returns c = laws.open_by_parts
