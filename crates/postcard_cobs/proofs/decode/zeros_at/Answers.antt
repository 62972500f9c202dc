-- The bits of the comparison stand for the bytes of the block.
use Rattle.std.proofs.Common.{eqb, w8}
use Rattle.std.proofs.lemmas.Simd.{bitmask_splat, length-chunk}
use lib.Lanes.{chunk}
use Rattle.postcard_cobs.proofs.decode.zeros_at.Goals as goal

pub returns : goal.returns
returns g c =
    bitmask_splat w8 eqb (chunk c.args.at g.row.SIZE c.args.buf.now) g.row.SIZE 0
    (length-chunk c.args.at g.row.SIZE c.args.buf.now c.requires.inside) c.requires.few
