-- The bytes so far are the encodings of the numbers so far, if each is below 128.
use Rattle.std.proofs.Common.{◌≡◌, ◌/◌, ◌%◌, ◌≤◌, length, take, arith}
use Rattle.std.proofs.Math.ListN.{length-set}
use Rattle.std.proofs.lemmas.List.{take_all}
use Rattle.postcard_wire.proofs.WordBits.{or_zero}
use Rattle.postcard_shape.proofs.OneByte.{one_byte_goes_on, are_encoded}
use Rattle.postcard_shape.proofs.pieces.first_block.Goals as goal

pub loop-i-preserved : goal.loop-i-preserved
loop-i-preserved g c =
    let n = c.to_number-number.result in
    let l = length-set c.loop-i.bytes c.loop-i.i (n % 256) in
    record {
      sized = omega (arith, l, c.loop-i.invariant.sized);
      so = λ none.
          let both = or_zero c.loop-i.more (n / 128) none in
          one_byte_goes_on g.T.Varint.form c.args.items.now c.loop-i.bytes c.loop-i.i c.index-items-i.result n
          (omega (arith, c.if-items-lt-BLOCK.false, c.loop-i-test.true)) (omega (arith, c.loop-i.invariant.sized, c.loop-i-test.true))
          c.index-items-i.is (c.loop-i.invariant.so both.0) c.to_number-number.ensures both.1;
    }

pub returns : goal.returns
returns g c =
    let i : c.loop-i.i ≡ 16 = omega (arith, c.loop-i-test.false, c.loop-i.auto.i-end) in
    let many : 16 ≤ length c.args.items.now = omega (arith, c.if-items-lt-BLOCK.false) in
    let whole = take_all 16 c.loop-i.bytes (omega (arith, c.loop-i.invariant.sized)) in
    let so = are_encoded g.T.Varint.form (take 16 c.args.items.now) c.loop-i.bytes
    (rw whole at (rw i at (c.loop-i.invariant.so c.if-more-ne0.false))) in
    record { some = omega arith; within = many; gives = so.0; fits = so.1 }
