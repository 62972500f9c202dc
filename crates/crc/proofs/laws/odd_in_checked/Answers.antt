-- By the lemma on polynomials.
use Rattle.crc.specs.Crc.{message}
use Rattle.crc.proofs.CheckedLemmas.{checked_agree, no_odd_between}
use Rattle.crc.proofs.laws.odd_in_checked.Goals as goal

pub returns : goal.returns
returns c a k i sound refin refout size parity f g b len p q damage =
    no_odd_between a sound (message a.refin f) (message a.refin g) (checked_agree a sound k i refin refout size f g len p q) b parity damage
