-- Each turn appends the object of one more difference.
use Rattle.std.proofs.Common.{◌<◌, length, arith, string_bytes}
use Rattle.pcard_compat.specs.Jsons.{IsOther}
use Rattle.pcard_compat.proofs.EachLemmas.{each_at}
use Rattle.pcard_compat.proofs.object.others_of.Goals as goal

pub loop-difference-preserved : goal.loop-difference-preserved
loop-difference-preserved c =
    let xs = c.args.differences.now in
    let low : c.loop-difference.difference-index < length xs = omega arith in
    rw (c.in_ok-push_str.ensures.bytes, c.deref.ensures)
    (each_at IsOther xs c.loop-difference.difference-index c.difference-item.result _ _ low c.difference-item.is c.loop-difference.invariant
    (string_bytes c.in_ok-object.object, c.in_ok-object.ensures, c.in_ok-other.ensures.ok))
