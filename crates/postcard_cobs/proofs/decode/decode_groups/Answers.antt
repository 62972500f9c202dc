-- Each turn decodes one more group, or finds that it runs past the end of the frame.
use Rattle.std.proofs.Common.{arith, rules}
use Rattle.postcard_cobs.proofs.Decoding.{in_bounds, refused, past_end, code_pos, code_byte, now_length, end_inside, decoded, moved_past, moved_length, on_full, on_short}
use Rattle.postcard_cobs.proofs.decode.decode_groups.Goals as goal

pub bounds-buf-read : goal.bounds-buf-read
bounds-buf-read c = in_bounds _ _ _ _ _ c.loop-next.invariant.at

pub returns-in_err-next-clause-no_groups : goal.returns-in_err-next-clause-no_groups
returns-in_err-next-clause-no_groups c = let r = refused _ _ _ _ _ c.loop-next.invariant.at c.in_err-next.ensures.runs_past in search rules

pub returns-in_err-next-clause-past_frame_unchanged : goal.returns-in_err-next-clause-past_frame_unchanged
returns-in_err-next-clause-past_frame_unchanged c = past_end _ _ _ _ _ c.loop-next.invariant.at

pub returns-in_err-next-clause-same_length : goal.returns-in_err-next-clause-same_length
returns-in_err-next-clause-same_length c = now_length _ _ _ _ _ c.loop-next.invariant.at

pub move_down-requires-clause-order : goal.move_down-requires-clause-order
move_down-requires-clause-order c = let p = code_pos _ _ _ _ _ c.loop-next.invariant.at in let n = c.in_ok-next.ensures.after in omega arith

pub move_down-requires-clause-inside : goal.move_down-requires-clause-inside
move_down-requires-clause-inside c = let e = end_inside _ _ _ _ _ c.loop-next.invariant.at in let n = c.in_ok-next.ensures.within in omega arith

pub overflow_sub-written : goal.overflow_sub-written
overflow_sub-written c = let p = code_pos _ _ _ _ _ c.loop-next.invariant.at in omega arith

pub returns-then-next-end-clause-gives : goal.returns-then-next-end-clause-gives
returns-then-next-end-clause-gives c =
    let byte = code_byte _ _ _ _ _ c.loop-next.invariant.at c.loop-next.invariant.bytes in
    let n = c.in_ok-next.ensures.after in let w = c.in_ok-next.ensures.within in
    decoded _ _ _ _ _ c.loop-next.invariant.at _ (omega arith) byte (rw n at c.move_down.ensures) (omega arith)

pub returns-then-next-end-clause-past_frame_unchanged : goal.returns-then-next-end-clause-past_frame_unchanged
returns-then-next-end-clause-past_frame_unchanged c =
    let byte = code_byte _ _ _ _ _ c.loop-next.invariant.at c.loop-next.invariant.bytes in
    let n = c.in_ok-next.ensures.after in let w = c.in_ok-next.ensures.within in
    moved_past _ _ _ _ _ c.loop-next.invariant.at _ (omega arith) byte (rw n at c.move_down.ensures)

pub returns-then-next-end-clause-same_length : goal.returns-then-next-end-clause-same_length
returns-then-next-end-clause-same_length c =
    let byte = code_byte _ _ _ _ _ c.loop-next.invariant.at c.loop-next.invariant.bytes in
    let n = c.in_ok-next.ensures.after in let w = c.in_ok-next.ensures.within in
    moved_length _ _ _ _ _ c.loop-next.invariant.at _ (omega arith) byte (rw n at c.move_down.ensures)

pub bounds-buf-written : goal.bounds-buf-written
bounds-buf-written c =
    let byte = code_byte _ _ _ _ _ c.loop-next.invariant.at c.loop-next.invariant.bytes in
    let s = c.in_ok-next.ensures.after in let w = c.in_ok-next.ensures.within in
    let m = moved_length _ _ _ _ _ c.loop-next.invariant.at _ (omega arith) byte (rw s at c.move_down.ensures) in
    let n = now_length _ _ _ _ _ c.loop-next.invariant.at in
    let e = end_inside _ _ _ _ _ c.loop-next.invariant.at in
    let p = code_pos _ _ _ _ _ c.loop-next.invariant.at in
    let b = c.loop-next.invariant.at.behind in let x = c.if-next-end.false in
    omega arith

pub loop-next-smaller-then-code : goal.loop-next-smaller-then-code
loop-next-smaller-then-code c =
    let p = code_pos _ _ _ _ _ c.loop-next.invariant.at in
    let i = c.loop-next.invariant.at.inside in let n = c.in_ok-next.ensures.after in
    omega arith

pub loop-next-preserved-then-code : goal.loop-next-preserved-then-code
loop-next-preserved-then-code c =
    let byte = code_byte _ _ _ _ _ c.loop-next.invariant.at c.loop-next.invariant.bytes in
    let n = c.in_ok-next.ensures.after in let w = c.in_ok-next.ensures.within in let x = c.if-next-end.false in
    record {
      at = rw n (on_short _ _ _ _ _ c.loop-next.invariant.at _ (omega arith) byte (rw n at c.move_down.ensures) (omega arith) c.if-code.true);
      bytes = c.loop-next.invariant.bytes;
    }

pub loop-next-preserved : goal.loop-next-preserved
loop-next-preserved c =
    let byte = code_byte _ _ _ _ _ c.loop-next.invariant.at c.loop-next.invariant.bytes in
    let n = c.in_ok-next.ensures.after in let w = c.in_ok-next.ensures.within in let x = c.if-next-end.false in
    record {
      at = rw n (on_full _ _ _ _ _ c.loop-next.invariant.at _ (omega arith) byte (rw n at c.move_down.ensures) (omega arith) c.if-code.false);
      bytes = c.loop-next.invariant.bytes;
    }
