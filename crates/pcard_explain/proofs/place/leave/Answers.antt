-- Removing a part that is as deep as the line keeps the paths around the parts less deep. The last part that stays is around the line.
use Rattle.std.proofs.Common.{ℕ, ◌-◌, List, length, take, sym, ap, ◌∙◌, arith}
use Rattle.std.proofs.lemmas.Bool.{ltb-true}
use Rattle.pcard_explain.specs.Places.{steps_in}
use Rattle.pcard_explain.specs.declared.place.Open.{Open}
use Rattle.pcard_explain.proofs.PlaceLemmas.{last_around, one_fewer}
use Rattle.pcard_explain.proofs.place.leave.Goals as goal

pub returns-then-part-depth-clause-around : goal.returns-then-part-depth-clause-around
returns-then-part-depth-clause-around c =
    let xs = c.deref.result.now in
    let last = c.in-Some.ensures.item in
    last_around xs c.in-Some.part.now c.args.depth (ltb-true 0 (length xs) (sym last.0)) last.1 c.if-part-depth.true
    ∙ ap (λ (ys : List Open). steps_in ys c.args.depth) c.deref.ensures.value ∙ c.parts.invariant c.args.depth (omega arith)

pub parts-preserved : goal.parts-preserved
parts-preserved c = λ d low.
    let xs = c.deref.result.now in
    let last = c.in-Some.ensures.item in
    let left = c.pop.ensures.rest ∙ ap (λ (n : ℕ). take (n - 1) c.parts.parts.items) (sym c.deref.ensures.len)
    ∙ ap (λ (ys : List Open). take (length xs - 1) ys) (sym c.deref.ensures.value) in
    ap (λ (ys : List Open). steps_in ys d) left
    ∙ one_fewer xs c.in-Some.part.now d c.args.depth (ltb-true 0 (length xs) (sym last.0)) last.1 c.if-part-depth.false low
    ∙ ap (λ (ys : List Open). steps_in ys d) c.deref.ensures.value ∙ c.parts.invariant d low
