use Rattle.std.proofs.Common.{arith}
use Rattle.postcard_wire.proofs.WordBits.{and_second}
use Rattle.postcard_wire.proofs.words.four_digits.Goals as goal

pub returns : goal.returns
returns c a b d e ha hb hd he is =
    let k = and_second a b d e ha hb hd he in
    rw (is, k) (omega arith)
