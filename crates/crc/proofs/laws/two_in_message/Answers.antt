-- By the lemma on polynomials.
use Rattle.crc.specs.Crc.{message}
use Rattle.crc.proofs.CheckedLemmas.{messages_agree, no_two_between}
use Rattle.crc.proofs.laws.two_in_message.Goals as goal

pub returns : goal.returns
returns c a sound k d order some near m n x len p q two =
    no_two_between a sound (message a.refin m) (message a.refin n) (messages_agree a sound m n x len p q) k d order some near two
