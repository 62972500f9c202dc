-- The polynomials are equal, and so are the bytes.
use Rattle.crc.specs.Crc.{message}
use Rattle.crc.proofs.CheckedLemmas.{messages_agree, no_burst_between}
use Rattle.crc.proofs.MessageLemmas.{same_bytes}
use Rattle.crc.proofs.laws.burst_in_message.Goals as goal

pub returns : goal.returns
returns c a sound m n x len bm bn p q burst =
    same_bytes a.refin m n len bm bn (no_burst_between a sound (message a.refin m) (message a.refin n) (messages_agree a sound m n x len p q) burst)
