use Rattle.std.proofs.Common.{◌≡◌, take, length}
use Rattle.postcard_shape.proofs.OneByte.{AreOneByte}
use Rattle.postcard_shape.proofs.pieces.first_block.Given as goal

abbrev pub invariant-loop-i : goal.invariant-loop-i
invariant-loop-i g l = record {
  sized : length l.bytes ≡ 16;
  so : l.more ≡ 0 → AreOneByte g.T.Varint.form (take l.i l.items) (take l.i l.bytes);
}
