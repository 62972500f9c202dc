-- The bytes after the message are those that the answer leaves.
use Rattle.std.proofs.Common.{refl}
use Rattle.pcard_message.proofs.ReadingLemmas.{value_next}
use Rattle.pcard_message.proofs.first.next_message.Goals as goal

pub returns-in-Value-clause-found : goal.returns-in-Value-clause-found
returns-in-Value-clause-found c =
    let is = rw c.in-Value.is at c.in_ok-value.ensures in (refl, value_next c.args.format.now c.args.bytes.now c.in-Value.after.now c.in-Value.value is)
