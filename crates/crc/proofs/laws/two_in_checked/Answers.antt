-- By the lemma on polynomials.
use Rattle.crc.specs.Crc.{message}
use Rattle.crc.proofs.CheckedLemmas.{checked_agree, no_two_between}
use Rattle.crc.proofs.laws.two_in_checked.Goals as goal

pub returns : goal.returns
returns c a k i sound refin refout size b d order some near f g len p q two =
    no_two_between a sound (message a.refin f) (message a.refin g) (checked_agree a sound k i refin refout size f g len p q) b d order some near two
