-- No field before the loop's place has the name.
use Rattle.std.proofs.Common.{◌≡◌, take, arith, sym, ◌∙◌}
use Rattle.std.proofs.lemmas.Grind.{common_steps}
use Rattle.std.proofs.lemmas.List.Elements.{All-more}
use Rattle.std.proofs.lemmas.Bool.Decides.{Decides-eqb}
use Rattle.std.proofs.lemmas.Slice.Eq.{slice_eq-Decides}
use Rattle.postcard_schema_text.specs.Names.{HasOther}
use Rattle.postcard_value_json_read.proofs.find.has_field.Goals as goal

pub loop-field-preserved : goal.loop-field-preserved
loop-field-preserved c =
    let x = c.field-item.result in
    let other : HasOther c.args.name.now x = λ same. cc (sym c.if-eq.false ∙ (slice_eq-Decides Decides-eqb _ _ _ c.eq.ensures).1 (c.as_bytes.ensures.value ∙ same)) in
    All-more (HasOther c.args.name.now) c.deref-field-items.result.now c.loop-field.field-index x (omega arith) c.loop-field.invariant (rw (← c.field-item.is) other)

pub returns : goal.returns
returns c = λ _.
    let xs = c.deref-field-items.result.now in
    let whole : take c.loop-field.field-index xs ≡ xs = grind (arith, common_steps) in
    rw (← c.deref-field-items.ensures.value) (rw whole at c.loop-field.invariant)
