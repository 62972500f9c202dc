use Rattle.std.proofs.Common.{◌+◌, take, drop, arith, refl, inr}
use Rattle.pcard_calls.proofs.explain.print_frame.Goals as goal

-- If the bytes before the first zero are no COBS frame, no row is printed.
pub returns-in_default-clause-printed : goal.returns-in_default-clause-printed
returns-in_default-clause-printed g c =
    let end = c.frame_len-end.result in
    let ends = c.frame_len-end.ensures.ends_at_zero (omega (arith, c.frame_len-end.ensures.within, c.if-end-bytes.false)) in
    let none = rw c.in_default.is at c.in_ok-content.ensures.none in
    inr (inr (take end c.args.bytes.now, drop (end + 1) c.args.bytes.now, ends, none ends.0), refl)
