-- Decoding in place leaves the frame's data in the first bytes, or fails since there is no data.
use Rattle.pcard_message.proofs.ReadingLemmas.{decoded, undecoded}
use Rattle.pcard_message.proofs.frame.unpack.Goals as goal

pub returns-in-Ok-clause-some : goal.returns-in-Ok-clause-some
returns-in-Ok-clause-some c free =
    decoded c.args.frame.now c.decode_in_place.new.buf c.in-Ok.count free (rw c.requires at c.in-Ok.ensures.gives)

pub returns-in-Err-clause-none : goal.returns-in-Err-clause-none
returns-in-Err-clause-none c free = undecoded c.args.frame.now free (rw c.requires at c.in-Err.ensures.no_groups)
