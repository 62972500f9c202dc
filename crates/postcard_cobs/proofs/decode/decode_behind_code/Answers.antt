-- Each turn decodes one more group, or finds that it runs past the end of the frame.
use Rattle.std.proofs.Common.{arith, rules}
use Rattle.std.proofs.lemmas.Grind.{common_steps}
use Rattle.postcard_cobs.proofs.Behind.{begins, code_pos, refused, moved_length, decoded}
use Rattle.postcard_cobs.proofs.Behind.{on_full, on_short}
use Rattle.postcard_cobs.proofs.decode.decode_behind_code.Goals as goal

pub loop-next-init : goal.loop-next-init
loop-next-init c = begins c.args.frame.now (grind (arith, common_steps))

pub returns-in_err-next-clause-no_groups : goal.returns-in_err-next-clause-no_groups
returns-in_err-next-clause-no_groups c =
    let r = refused _ _ _ _ _ c.loop-next.invariant c.requires c.in_err-next.ensures.runs_past in
    search rules

pub move_down-requires-clause-order : goal.move_down-requires-clause-order
move_down-requires-clause-order c =
    let p = code_pos _ _ _ _ _ c.loop-next.invariant c.requires in
    let n = c.in_ok-next.ensures.after in
    omega arith

pub overflow_sub-written : goal.overflow_sub-written
overflow_sub-written c = code_pos _ _ _ _ _ c.loop-next.invariant c.requires

pub returns-then-next-end-clause-gives : goal.returns-then-next-end-clause-gives
returns-then-next-end-clause-gives c =
    let n = c.in_ok-next.ensures.after in
    decoded _ _ _ _ _ c.loop-next.invariant c.requires (omega arith) (omega arith) _
    (rw n at c.move_down.ensures) (omega arith)

pub bounds-frame-written : goal.bounds-frame-written
bounds-frame-written c =
    let n = c.in_ok-next.ensures.after in let w = c.in_ok-next.ensures.within in
    let m = moved_length _ _ _ _ _ c.loop-next.invariant c.requires (omega arith) (omega arith) _
    (rw n at c.move_down.ensures) in
    let p = code_pos _ _ _ _ _ c.loop-next.invariant c.requires in
    let b = c.loop-next.invariant.behind in let x = c.if-next-end.false in
    omega arith

pub loop-next-smaller-then-code : goal.loop-next-smaller-then-code
loop-next-smaller-then-code c =
    let p = code_pos _ _ _ _ _ c.loop-next.invariant c.requires in
    let i = c.loop-next.invariant.inside in let n = c.in_ok-next.ensures.after in
    omega arith

pub loop-next-preserved-then-code : goal.loop-next-preserved-then-code
loop-next-preserved-then-code c =
    let n = c.in_ok-next.ensures.after in let w = c.in_ok-next.ensures.within in
    let x = c.if-next-end.false in
    rw n (on_short _ _ _ _ _ c.loop-next.invariant c.requires (omega arith) (omega arith) _
    (rw n at c.move_down.ensures) (omega arith) c.if-code.true)

pub loop-next-preserved : goal.loop-next-preserved
loop-next-preserved c =
    let n = c.in_ok-next.ensures.after in let w = c.in_ok-next.ensures.within in
    let x = c.if-next-end.false in
    rw n (on_full _ _ _ _ _ c.loop-next.invariant c.requires (omega arith) (omega arith) _
    (rw n at c.move_down.ensures) (omega arith) c.if-code.false)
