-- The name of a number at its full width is added in pieces: the wrapper, `<`, the number's type and `>`.
use Rattle.std.proofs.Common.{sym}
use Rattle.postcard_key.proofs.Steps.{then_text}
use Rattle.postcard_key.proofs.text.add_leaf.Goals as goal

pub returns-in-Fixed : goal.returns-in-Fixed
returns-in-Fixed c =
    rw (c.in-Fixed.is, sym c.name-in-Fixed.ensures, sym c.name-in-Fixed-2.ensures)
    (then_text c.add-in-Fixed.ensures (then_text c.add-in-Fixed-2.ensures (then_text c.add-in-Fixed-3.ensures c.add-in-Fixed-4.ensures)))
