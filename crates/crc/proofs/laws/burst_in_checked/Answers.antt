-- By the lemma on polynomials.
use Rattle.crc.proofs.CheckedLemmas.{no_burst_in_checked}
use Rattle.crc.proofs.laws.burst_in_checked.Goals as goal

pub returns : goal.returns
returns c a k i sound refin refout size f g len bf bg p q burst =
    no_burst_in_checked a sound k i refin refout size f g len bf bg p q burst
