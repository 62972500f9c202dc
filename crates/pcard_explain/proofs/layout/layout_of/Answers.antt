-- One more line adds its bytes to the count, and may be the longest.
use Rattle.std.proofs.Common.{arith}
use Rattle.pcard_explain.proofs.LayoutLemmas.{counted_more, longest_more}
use Rattle.pcard_explain.proofs.layout.layout_of.Goals as goal

pub loop-line-preserved : goal.loop-line-preserved
loop-line-preserved c =
    let so = c.loop-line.invariant in
    let xs = c.args.lines.now in
    let i = c.loop-line.line-index in
    let x = c.line-item.result in
    record {
      count = rw (counted_more xs i x (omega arith) c.line-item.is) (omega (arith, so.count, c.saturating_add-count.ensures));
      longest = rw (longest_more xs i x (omega arith) c.line-item.is) (omega (arith, so.longest, c.max-longest.ensures));
    }
