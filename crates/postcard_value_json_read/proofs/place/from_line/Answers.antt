-- Each turn drops one line, and at the end the bytes up to the column are dropped.
use Rattle.std.proofs.Common.{◌≡◌, ◌-◌, ◌++◌, sym, ap, ◌∙◌, subst, arith}
use Rattle.postcard_value_json_read.specs.Lines.{AreLines}
use Rattle.postcard_value_json_read.proofs.LineLemmas.{line_less}
use Rattle.postcard_value_json_read.proofs.place.from_line.Goals as goal

pub loop-init : goal.loop-init
loop-init c = λ lines rest are whole. (lines, are, whole)

pub loop-preserved : goal.loop-preserved
loop-preserved c = λ lines rest are whole.
    let (more, left, e) = c.loop.invariant lines rest are whole in
    line_less c.args.line c.loop.counter c.loop.rest.now more rest c.after_line-rest.result.now c.loop-test.true left e c.after_line-rest.ensures

pub returns : goal.returns
returns c = λ lines before rest are long whole.
    let (more, left, e) = c.loop.invariant lines (before ++ rest) are whole in
    let done : c.args.line - c.loop.counter ≡ 0 = omega arith in
    let none = subst (λ n. AreLines n more) done left in
    c.after.ensures before rest (long ∙ sym c.saturating_sub.ensures) (e ∙ ap (λ t. t ++ (before ++ rest)) none)
