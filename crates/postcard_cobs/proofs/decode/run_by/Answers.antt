-- The first zero is in the block where the blocks without a zero end.
use Rattle.std.proofs.Common.{arith, drop}
use Rattle.std.proofs.lemmas.List.{length-drop}
use Rattle.postcard_cobs.proofs.Searching.{at_most, at_stop}
use Rattle.postcard_cobs.proofs.decode.run_by.Goals as goal

pub overflow_add-result : goal.overflow_add-result
overflow_add-result g c =
    let at = c.min-at.ensures in
    let rest = drop c.min-at.result c.args.buf.now in
    let most = at_most rest g.row.SIZE
    (omega (arith, at, c.requires.long, length-drop c.min-at.result c.args.buf.now)) in
    omega (arith, at, c.run_at.ensures, most, c.requires.long)

pub returns : goal.returns
returns g c =
    at_stop c.args.buf.now g.row.SIZE c.past_free-n.result c.min-at.result c.run_at.result
    c.requires.long c.past_free-n.ensures.within c.past_free-n.ensures.free c.past_free-n.ensures.stops
    c.min-at.ensures c.run_at.ensures
