-- Without data the bytes are no COBS frame.
use Rattle.pcard_message.proofs.ReadingLemmas.{no_content}
use Rattle.pcard_message.proofs.frame.read_frame.Goals as goal

pub returns-in-None : goal.returns-in-None
returns-in-None c free = no_content _ _ _ ((rw c.in-None.is at c.in_ok-content.ensures.none) free) c.refuse.ensures
