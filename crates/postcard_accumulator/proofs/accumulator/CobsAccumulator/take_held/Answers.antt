use Rattle.std.proofs.Common.{arith, take, length, ◌+◌, ap, refl, inl, []}
use Rattle.std.proofs.lemmas.List.{take_rest, length-take-le}
use Rattle.postcard_accumulator.specs.State.{holding}
use Rattle.postcard_accumulator.proofs.Holding.{not_skipping}
use Rattle.postcard_accumulator.proofs.accumulator.CobsAccumulator.take_held.Goals as goal

pub returns-then-n-self-2 : goal.returns-then-n-self-2
returns-then-n-self-2 g c =
    let here = c.frame_len-n.ensures.ends_at_zero
    (let w = c.frame_len-n.ensures.within in omega (arith, c.if-n-input.false)) in
    let s = not_skipping _ _ _ c.self-2.view_is c.requires in
    let low = c.self-2.invariant.0 in
    let held = ap length s.1 in
    let cut = length-take-le c.self-2.inside.idx c.self-2.inside.buf (omega arith) in
    let part = length-take-le c.frame_len-n.result c.args.input.now c.frame_len-n.ensures.within in
    rw (take_rest c.args.input.now (c.frame_len-n.result + 1)) (
      (
        refl,
        (λ x. tt),
        inl (
          take c.frame_len-n.result c.args.input.now,
          here,
          omega
              (arith, c.if-n-self-2.true),
          rw s.0 refl,
        ),
      ),
      record {
        answer = (
          holding [],
          inl (
            take c.frame_len-n.result c.args.input.now,
            here,
            omega (arith, c.if-n-self-2.true),
            refl,
          ),
        );
        after = tt;
      },
    )

pub returns-in-Err : goal.returns-in-Err
returns-in-Err g c =
    let here = c.frame_len-n.ensures.ends_at_zero
    (let w = c.frame_len-n.ensures.within in omega (arith, c.if-n-input.false)) in
    let s = not_skipping _ _ _ c.self-2.view_is c.requires in
    let low = c.self-2.invariant.0 in
    let held = ap length s.1 in
    let cut = length-take-le c.self-2.inside.idx c.self-2.inside.buf (omega arith) in
    let part = length-take-le c.frame_len-n.result c.args.input.now c.frame_len-n.ensures.within in
    let none = rw c.extend-2.ensures at c.in-Err.ensures.no_groups in
    rw (take_rest c.args.input.now (c.frame_len-n.result + 1)) (
      (
        refl,
        (λ x. tt),
        (
          take c.frame_len-n.result c.args.input.now,
          (here, omega (arith, c.if-n-self-2.false)),
          none,
          c.decode.follows.holds-at-none,
        ),
      ),
      record {
        answer = (
          holding [],
          (
            take c.frame_len-n.result c.args.input.now,
            (here, omega (arith, c.if-n-self-2.false)),
            none,
            refl,
          ),
        );
        after = tt;
      },
    )
