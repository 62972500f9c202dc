use Rattle.std.proofs.Common.{◌≡◌, take, length}
use Rattle.postcard_shape.specs.Runs.{AreValuesOf}
use Rattle.postcard_shape.proofs.runs.row_of_digits.Given as goal

abbrev pub invariant-loop-i : goal.invariant-loop-i
invariant-loop-i g l = record {
  sized : length l.row ≡ 12;
  so : AreValuesOf g.T.Varint.width g.T.Varint.form (take l.i l.digits) (take l.i l.row);
}
