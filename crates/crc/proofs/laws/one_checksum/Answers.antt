-- By the lemma on polynomials.
use Rattle.crc.proofs.CheckedLemmas.{one_crc}
use Rattle.crc.proofs.laws.one_checksum.Goals as goal

pub returns : goal.returns
returns c a sound m x y p q =
    one_crc a sound m x y p q
