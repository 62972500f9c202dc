-- By the lemma on polynomials.
use Rattle.crc.proofs.CheckedLemmas.{replaced_in_checked}
use Rattle.crc.proofs.laws.bytes_in_checked.Goals as goal

pub returns : goal.returns
returns c a k i sound refin refout size p x y s len few bp bx by bs u v =
    replaced_in_checked a sound k i refin refout size p x y s len few bp bx by bs u v
