-- Each turn appends the line of one more difference.
use Rattle.std.proofs.Common.{◌<◌, length, arith}
use Rattle.pcard_compat.specs.Texts.{IsLine}
use Rattle.pcard_compat.proofs.EachLemmas.{each_at}
use Rattle.pcard_compat.proofs.text.lines_of.Goals as goal

pub loop-difference-preserved : goal.loop-difference-preserved
loop-difference-preserved c =
    let xs = c.args.differences.now in
    let low : c.loop-difference.difference-index < length xs = omega arith in
    rw (c.in_ok-push_str.ensures.bytes, c.deref.ensures)
    (each_at IsLine xs c.loop-difference.difference-index c.difference-item.result _ _ low c.difference-item.is c.loop-difference.invariant c.in_ok-line.ensures)
