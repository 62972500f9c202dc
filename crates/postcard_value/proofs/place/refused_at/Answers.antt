-- Each turn goes one level deeper, to a part that stops where the whole stops. The last part stops at its first node.
use Rattle.std.proofs.Common.{◌≡◌, ◌+◌, ◌++◌, length, sym, ap, ◌∙◌, arith, append_assoc, length-append}
use Rattle.postcard_value.proofs.PlaceLemmas.{some_found, none_found, stops_inside, stops_here}
use Rattle.postcard_value.proofs.place.refused_at.Goals as goal

pub loop-steps-preserved : goal.loop-steps-preserved
loop-steps-preserved c =
    let so = c.loop-steps.invariant in
    let now = c.loop-steps in
    let after = c.in-Some.after.now in
    let d = some_found now.part.now now.rest.now now.steps.items c.enter.new.path.items _
    (c.in-Some.inner, c.in-Some.after) c.in-Some.is c.in_ok-inner.ensures.found in (
      so.0 ++ d.0,
      so.1 ∙ ap (λ q. so.0 ++ q) d.4 ∙ sym (append_assoc so.0 d.0 after),
      λ none. d.5 (so.2 none),
      stops_inside c.args.schema.now now.part.now c.args.bytes.now so.0 now.rest.now now.steps.items c.enter.new.path.items so.3 c.in-Some.inner.now after d,
    )

pub returns-clause-at : goal.returns-clause-at
returns-clause-at c = λ none.
    let so = c.loop-steps.invariant in
    let now = c.loop-steps in
    let e = none_found now.part.now now.rest.now now.steps.items c.enter.new.path.items _ c.in_default.is c.in_ok-inner.ensures.found in
    let size : c.saturating_sub.result ≡ length so.0 + 0 = omega (arith, c.saturating_sub.ensures, ap length so.1, length-append so.0 now.rest.now) in
    stops_here c.args.schema.now now.part.now c.args.bytes.now so.0 now.rest.now now.steps.items c.enter.new.path.items so.3 _ (e.0
    (so.2 none)) e.1 size
