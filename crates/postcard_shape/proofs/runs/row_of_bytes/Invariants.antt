use Rattle.std.proofs.Common.{◌≡◌, take, length}
use Rattle.postcard_shape.specs.Runs.{AreValuesOf}
use Rattle.postcard_shape.proofs.runs.row_of_bytes.Given as goal

abbrev pub invariant-loop-i : goal.invariant-loop-i
invariant-loop-i g l = record {
  sized : length l.row ≡ 64;
  so : AreValuesOf g.T.Varint.width g.T.Varint.form (take l.i l.block) (take l.i l.row);
}
