use Rattle.pcard_call.proofs.OneReading.{same_call}
use Rattle.pcard_call.proofs.laws.one_call.Goals as goal

pub returns : goal.returns
returns c = same_call
