use Rattle.postcard_accumulator.proofs.Cutting as lemmas
use Rattle.postcard_accumulator.proofs.laws.frames_are_one.Goals as goal

pub returns : goal.returns
returns c = lemmas.frames_are_one
