-- By the lemma on polynomials.
use Rattle.crc.specs.Crc.{message}
use Rattle.crc.proofs.CheckedLemmas.{messages_agree, no_odd_between}
use Rattle.crc.proofs.laws.odd_in_message.Goals as goal

pub returns : goal.returns
returns c a sound parity m n x k len p q damage =
    no_odd_between a sound (message a.refin m) (message a.refin n) (messages_agree a sound m n x len p q) k parity damage
