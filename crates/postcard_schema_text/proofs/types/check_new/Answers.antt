-- `check_new` compares the name with those before, one after the other.
use Rattle.std.proofs.Common.{◌≡◌, ◌<◌, take, length, arith, sym, ◌∙◌}
use Rattle.std.specs.Prelude.{string_bytes}
use Rattle.std.proofs.lemmas.Grind.{common_steps}
use Rattle.std.proofs.lemmas.List.Elements.{All-more}
use Rattle.std.proofs.lemmas.Bool.Decides.{Decides-eqb}
use Rattle.std.proofs.lemmas.Slice.Eq.{slice_eq-Decides}
use Rattle.postcard_schema_text.specs.Names.{HasOther}
use Rattle.postcard_schema_text.proofs.types.check_new.Goals as goal

pub returns-then-eq-clause-twice : goal.returns-then-eq-clause-twice
returns-then-eq-clause-twice c =
    let x = c.other-item.result in
    let same : string_bytes x.name ≡ c.args.name.now = sym c.as_bytes.ensures.value ∙ (slice_eq-Decides Decides-eqb _ _ _ c.eq.ensures).0 c.if-eq.true in
    let low : c.loop-other.other-index < length c.args.before.now.items = grind (arith, common_steps) in
    (c.problem_at.ensures.problem, c.problem_at.ensures.left, (x, (c.loop-other.other-index, low, sym (rw c.deref-other-items.ensures.value at c.other-item.is)), same))

pub loop-other-preserved : goal.loop-other-preserved
loop-other-preserved c =
    let x = c.other-item.result in
    let name = c.args.name.now in
    let other : HasOther name x = λ same. cc (sym c.if-eq.false ∙ (slice_eq-Decides Decides-eqb _ _ _ c.eq.ensures).1 (c.as_bytes.ensures.value ∙ same)) in
    All-more (HasOther name) c.deref-other-items.result.now c.loop-other.other-index x (omega arith) c.loop-other.invariant (rw (← c.other-item.is) other)

pub returns-clause-new : goal.returns-clause-new
returns-clause-new c =
    let xs = c.deref-other-items.result.now in
    let whole : take c.loop-other.other-index xs ≡ xs = grind (arith, common_steps) in
    rw (← c.deref-other-items.ensures.value) (rw whole at c.loop-other.invariant)
