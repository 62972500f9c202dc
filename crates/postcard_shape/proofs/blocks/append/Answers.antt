use Rattle.std.proofs.Common.{◌-◌, ◌*◌, ◌/◌, ◌<◌, ◌≤◌, length, arith}
use Rattle.std.proofs.Math.Nat.{le-div_iff_mul-le}
use Rattle.std.proofs.lemmas.Grind.{common_steps}
use Rattle.std.proofs.lemmas.List.{take_rest}
use Rattle.postcard_shape.proofs.Counted.{none_read, one_read, one_left, others_left, read_within, read_appends}
use Rattle.postcard_shape.proofs.blocks.append.Goals as goal

pub loop-init : goal.loop-init
loop-init g c =
    let size = c.size-size.result in
    let some : 0 < size = omega arith in
    let n = length c.args.bytes.now in
    let one : 1 * size ≤ n = omega arith in
    let whole : 1 ≤ n / size = (le-div_iff_mul-le some).1 one in
    let few : c.min-count.result - 0 ≤ n / size = omega arith in
    record {
      some = omega arith;
      so = none_read g.T.OfBytes.form c.args.items.now.items _ c.args.bytes.now c.reserve.ensures.items;
      room = grind (arith, common_steps);
      left = (le-div_iff_mul-le some).0 few;
    }

pub loop-preserved : goal.loop-preserved
loop-preserved g c =
    let so = c.loop.invariant in
    let size = c.size-size.result in
    let i = c.loop.counter in
    let rest = c.loop.rest.now in
    let some : 0 < size = omega arith in
    let few : i < c.min-count.result = omega arith in
    record {
      some = so.some;
      so = one_read g.T.OfBytes.form c.args.items.now.items c.loop.items.items c.push_reserved.new.self.items i size _
          c.args.bytes.now rest _ c.from_front.result so.so c.size-size.ensures c.from_front.ensures c.push_reserved.ensures.items some
          (one_left c.min-count.result i size rest few so.left) (take_rest rest size);
      room = omega (arith, few, so.room, c.push_reserved.ensures.len, c.push_reserved.ensures.capacity);
      left = others_left c.min-count.result i size rest _ few so.left (take_rest rest size);
    }

pub returns-clause-within : goal.returns-clause-within
returns-clause-within g c =
    let so = c.loop.invariant in
    let some : 0 < c.loop.counter = omega (arith, so.some) in
    read_within g.T.OfBytes.form c.args.items.now.items c.loop.items.items c.loop.counter c.args.bytes.now c.loop.rest.now so.so some

pub returns-clause-reads : goal.returns-clause-reads
returns-clause-reads g c =
    let so = c.loop.invariant in
    let some : 0 < c.loop.counter = omega (arith, so.some) in
    read_appends g.T.OfBytes.form c.args.items.now.items c.loop.items.items c.loop.counter c.args.bytes.now c.loop.rest.now so.so some
    c.args.most (omega arith)
