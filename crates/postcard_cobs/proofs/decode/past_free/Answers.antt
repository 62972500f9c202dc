-- A block without a zero is passed.
use Rattle.std.proofs.Common.{arith}
use Rattle.postcard_cobs.proofs.Searching.{none_on}
use Rattle.postcard_cobs.proofs.decode.past_free.Goals as goal

pub loop-n-preserved : goal.loop-n-preserved
loop-n-preserved g c =
    let t = c.loop-n-test.true in
    record {
      within = omega arith;
      none = none_on c.args.buf.now c.loop-n.n g.row.SIZE c.loop-n.invariant.none
          (c.is_free.ensures.0 c.if-is_free.true);
    }

pub returns-else-is_free-clause-stops : goal.returns-else-is_free-clause-stops
returns-else-is_free-clause-stops g c = λ lt z.
    let free = c.is_free.ensures.1 z in let is = c.if-is_free.false in cc (free, is)

pub returns-after-loop-n-clause-stops : goal.returns-after-loop-n-clause-stops
returns-after-loop-n-clause-stops g c = λ lt z. let t = c.loop-n-test.false in absurd (omega (arith, lt))
