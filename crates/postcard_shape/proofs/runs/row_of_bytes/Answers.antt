use Rattle.std.proofs.Common.{arith}
use Rattle.std.proofs.Math.ListN.{length-set}
use Rattle.postcard_shape.proofs.Varints.{row_goes_on}
use Rattle.postcard_shape.proofs.runs.row_of_bytes.Goals as goal

pub loop-i-preserved : goal.loop-i-preserved
loop-i-preserved g c =
    let l = length-set c.loop-i.row c.loop-i.i c.of_digits.result in
    record {
      sized = omega (arith, l, c.loop-i.invariant.sized);
      so = row_goes_on g.T.Varint.width g.T.Varint.form c.args.block.now c.loop-i.row c.loop-i.i c.of_digits.result
          (omega (arith, c.told-block, c.loop-i-test.true)) (omega (arith, c.loop-i.invariant.sized, c.loop-i-test.true))
          c.loop-i.invariant.so (rw c.from.ensures at c.of_digits.ensures);
    }
