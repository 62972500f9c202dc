use Rattle.std.proofs.Common.{arith, ◌+◌, ◌-◌, length, ap}
use Rattle.std.proofs.lemmas.Slice.{take-put_mid}
use Rattle.std.proofs.lemmas.List.{length-take-le}
use Rattle.postcard_cobs.proofs.Made.{NoZero-append}
use Rattle.postcard_accumulator.proofs.Holding.{not_skipping, never}
use Rattle.postcard_accumulator.proofs.accumulator.CobsAccumulator.extend.Goals as goal

pub invariant_of-self : goal.invariant_of-self
invariant_of-self g c =
    let s = not_skipping _ _ _ c.self.view_is c.requires.not_skipping in
    let old = c.self.invariant in
    let low = old.0 in
    let more = NoZero-append _ _ old.1 c.requires.no_zero in
    let held = ap length s.1 in
    let cut = length-take-le c.self.inside.idx c.self.inside.buf (omega arith) in (
      omega (arith, c.requires.room),
      rw (
        take-put_mid c.self.inside.idx
            (c.self.inside.idx + length c.args.input.now - c.self.inside.idx) c.self.inside.buf
            c.copy_from_slice.new.self (c.self.inside.idx + length c.args.input.now) (omega arith)
            (omega arith),
        c.copy_from_slice.ensures.after,
      ) more,
      never _ _ s.0,
    )
