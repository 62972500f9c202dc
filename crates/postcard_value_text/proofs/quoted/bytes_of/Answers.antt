-- Each turn of the loop reads two digits, and the bytes so far are those of the digits before.
use Rattle.std.proofs.Common.{◌≡◌, ◌+◌, ◌<◌, [], ◌∷◌, ◌++◌, length, arith, inl, inr, sym, ap, ◌∙◌}
use Rattle.std.proofs.lemmas.Grind.{common_steps}
use Rattle.std.proofs.lemmas.List.{append_assoc}
use Rattle.std.proofs.lemmas.Result.{err_from_is_err_and}
use Rattle.postcard_value_text.proofs.Quotes.{even, no_bytes, bytes_more}
use Rattle.postcard_value_text.proofs.quoted.bytes_of.Goals as goal

pub returns-then-digits-ne0-clause-refused : goal.returns-then-digits-ne0-clause-refused
returns-then-digits-ne0-clause-refused c =
    inr (c.here.ensures, λ held h. let twice = even held c.args.digits.now h in grind (arith, common_steps, twice, c.if-digits-ne0.true))

pub returns-in_err-high-clause-refused : goal.returns-in_err-high-clause-refused
returns-in_err-high-clause-refused c =
    let l = c.loop.invariant in
    let p = err_from_is_err_and c.from_residual.result c.from_residual.ensures.1 in
    let some : 1 < length c.loop.rest.now = omega (arith, l.3, c.loop-test.true) in
    rw (p.1, p.2) (inr (c.in_err-high.ensures.refused.0, λ held h. no_bytes held l.0 c.loop.rest.now c.args.digits.now l.2 (omega (arith, some)) c.in_err-high.ensures.refused.1 h))

pub returns-in_err-low-clause-refused : goal.returns-in_err-low-clause-refused
returns-in_err-low-clause-refused c =
    let l = c.loop.invariant in
    let p = err_from_is_err_and c.from_residual-in_err-low.result c.from_residual-in_err-low.ensures.1 in
    let (x, next, _, _) = c.in_ok-high.ensures.taken in
    let after = c.take_digit.new.rest.now in
    let more : 1 < length c.loop.rest.now = omega (arith, l.3, c.loop-test.true) in
    let one : length c.loop.rest.now ≡ length after + 1 = ap length next ∙ grind (arith, common_steps) in
    let whole = l.2 ∙ ap (λ t. l.0 ++ t) next ∙ sym (append_assoc l.0 (x ∷ []) after) in
    rw (p.1, p.2) (inr (c.in_err-low.ensures.refused.0, λ held h. no_bytes held (l.0 ++ x ∷ []) after c.args.digits.now whole (omega (arith, more, one)) c.in_err-low.ensures.refused.1 h))

pub returns-in_err-push-clause-refused : goal.returns-in_err-push-clause-refused
returns-in_err-push-clause-refused c =
    let p = err_from_is_err_and c.from_residual-in_err-push.result c.from_residual-in_err-push.ensures.1 in
    rw (p.1, p.2) (inl c.in_err-push.ensures.only_out_of_memory)

pub loop-preserved : goal.loop-preserved
loop-preserved c =
    let (x, first, high, is) = c.in_ok-high.ensures.taken in
    let (y, second, low, too) = c.in_ok-low.ensures.taken in
    rw (c.in_ok-push.ensures.added, is, too) (bytes_more c.loop.bytes.items c.loop.counter x y c.args.digits.now c.loop.rest.now c.take_digit.new.rest.now c.take_digit-in-loop.new.rest.now
    c.loop.invariant first second high low)
