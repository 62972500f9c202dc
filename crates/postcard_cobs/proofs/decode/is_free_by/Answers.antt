-- The two blocks are parts of the buffer, and each byte is in one of them.
use Rattle.std.proofs.Common.{◌-◌, length, drop, arith}
use Rattle.postcard_cobs.proofs.Decoding.{NoZero-drop, NoZero-take}
use Rattle.postcard_cobs.proofs.Searching.{free_ends}
use Rattle.postcard_cobs.proofs.decode.is_free_by.Goals as goal

pub returns-then-is_free : goal.returns-then-is_free
returns-then-is_free g c =
    let xs = c.args.buf.now in
    let k = g.row.SIZE in
    let last = length xs - k in (
      λ t. free_ends xs k last (omega (arith, c.requires.long)) c.requires.short (c.is_free.ensures.0 c.if-is_free.true) (c.is_free-then-is_free.ensures.0 t),
      λ z. c.is_free-then-is_free.ensures.1 (NoZero-take k (drop last xs) (NoZero-drop last xs z)),
    )

pub returns-else-is_free : goal.returns-else-is_free
returns-else-is_free g c =
    let xs = c.args.buf.now in (
      λ t. absurd (cc),
      λ z. c.is_free.ensures.1 (NoZero-take g.row.SIZE xs z),
    )
