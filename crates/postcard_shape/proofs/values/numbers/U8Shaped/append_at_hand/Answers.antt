-- The bytes that were appended are the elements that they encode.
use Rattle.std.proofs.Common.{◌≡◌, ◌++◌, take, arith}
use Rattle.std.proofs.lemmas.Grind.{common_steps}
use Rattle.std.proofs.lemmas.List.{length-take-le}
use Rattle.postcard_shape.proofs.Bytes.{are_bytes}
use Rattle.postcard_shape.proofs.values.numbers.U8Shaped.append_at_hand.Goals as goal

pub returns-clause-reads : goal.returns-clause-reads
returns-clause-reads c =
    let most = c.args.most in
    let u = take most c.args.bytes.now in
    let front = c.in_range-front.result.now in
    let same : front ≡ u = c.in_range-front.ensures.same in
    let whole : c.extend_from_slice.new.self.items ≡ c.args.items.now.items ++ front = grind (arith, common_steps) in
    let long = length-take-le most c.args.bytes.now (omega (arith, c.if-most-bytes.false)) in
    let values = are_bytes u c.in_range-front.ensures.range in
    (u, values, omega (arith, long, c.if-most-eq0.false), omega (arith, long), rw same at whole)
