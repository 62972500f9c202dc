use Rattle.std.proofs.Common.{ℕ, ◌%◌, get_or, arith}
use Rattle.postcard_wire.proofs.WordBits.{eight_digits, five_digits}
use Rattle.postcard_wire.proofs.words.number_of.Goals as goal
use Rattle.postcard_wire.proofs.words.number_of.Goals.{then-bits-le32, else-bits-le32}

pub returns : goal.returns
returns c p cut =
    let digit = λ (i : ℕ). get_or p i 0 % 128 in
    let e = eight_digits p cut.few in
    let d = cut.spread in
    let low = c.four_digits-low.ensures (digit 0) (digit 1) (digit 2) (digit 3) (omega arith) (omega arith) (omega arith) (omega arith) (omega arith) in
    elim c.if-bits-le32.branch [
      | then-bits-le32 w ↦ let f = five_digits p (omega (arith, cut.count)) in omega arith
      | else-bits-le32 w ↦
          let high = w.four_digits-high.ensures (digit 4) (digit 5) (digit 6) (digit 7) (omega arith) (omega arith) (omega arith) (omega arith) (omega arith) in omega arith
    ]
