use Rattle.pcard_call.proofs.OneReading.{not_misused}
use Rattle.pcard_call.proofs.laws.call_or_misuse.Goals as goal

pub returns : goal.returns
returns c = not_misused
