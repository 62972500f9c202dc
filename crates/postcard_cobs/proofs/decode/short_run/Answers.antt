-- A byte that isn't zero is passed, and the first zero or the end ends the run.
use Rattle.std.proofs.Common.{arith}
use Rattle.postcard_cobs.proofs.Decoding.{zero_here, none_here, one_more}
use Rattle.postcard_cobs.proofs.Searching.{passed}
use Rattle.postcard_cobs.proofs.decode.short_run.Goals as goal

pub loop-n-preserved : goal.loop-n-preserved
loop-n-preserved c = record {
  within = omega arith;
  none = one_more c.loop-n.n c.args.buf.now c.loop-n-test.true c.loop-n.invariant.none c.if-buf-n-ne0.true;
}

pub returns-else-buf-n-ne0 : goal.returns-else-buf-n-ne0
returns-else-buf-n-ne0 c =
    let p = passed c.loop-n.n c.args.buf.now c.loop-n.invariant.within c.loop-n.invariant.none in
    let z = zero_here c.args.buf.now c.loop-n.n c.loop-n-test.true c.if-buf-n-ne0.false in
    omega (arith, p, z)

pub returns-after-loop-n : goal.returns-after-loop-n
returns-after-loop-n c =
    let p = passed c.loop-n.n c.args.buf.now c.loop-n.invariant.within c.loop-n.invariant.none in
    let z = none_here c.args.buf.now c.loop-n.n c.loop-n-test.false in
    omega (arith, p, z)
