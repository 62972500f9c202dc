-- Each field before the loop's place has a member.
use Rattle.std.proofs.Common.{◌≡◌, Some, get_or, is_some, true, false, string_bytes, take, arith, sym, ◌∙◌, ap, rules}
use Rattle.std.proofs.lemmas.Grind.{common_steps}
use Rattle.std.proofs.lemmas.List.Elements.{All-more}
use Rattle.serde_json.specs.Data.{Data}
use Rattle.serde_json.specs.Find.{get}
use Rattle.serde_json.specs.View.{view}
use Rattle.postcard_value_json_read.proofs.LengthErrors.{none_found, some_found}
use Rattle.postcard_value_json_read.proofs.find.missing.Goals as goal

pub returns-then-is_none-clause-some : goal.returns-then-is_none-clause-some
returns-then-is_none-clause-some c =
    let whole = c.deref-field-items.ensures.value in
    let x = c.field-item.result in
    let here : get_or c.args.fields.now.items c.loop-field.field-index x ≡ x = sym (rw whole at c.field-item.is) in
    let same : c.as_str.result.now ≡ c.as_str-then-is_none.result.now = c.as_str.ensures.value ∙ sym c.as_str-then-is_none.ensures.value in
    let none : is_some c.get.result ≡ false = search rules in (
      (x, (c.loop-field.field-index, rw whole at c.loop-field-test.true, here), sym c.as_str-then-is_none.ensures.value),
      none_found (λ v. view v.now) c.get.result _ (c.get.ensures ∙ ap (λ k. get k (view c.args.json.now)) same) none,
    )

pub loop-field-preserved : goal.loop-field-preserved
loop-field-preserved c =
    let x = c.field-item.result in
    let d = view c.args.json.now in
    let some : is_some c.get.result ≡ true = search rules in
    let has : (e : Data) × (get (string_bytes x.name) d ≡ Some e) = some_found (λ v. view v.now) c.get.result (get (string_bytes x.name) d) (c.get.ensures ∙ ap (λ k. get k d) c.as_str.ensures.value) some in
    All-more (λ n. (e : Data) × (get (string_bytes n.name) d ≡ Some e)) c.deref-field-items.result.now c.loop-field.field-index x (omega arith) c.loop-field.invariant (rw (← c.field-item.is) has)

pub returns-clause-none : goal.returns-clause-none
returns-clause-none c =
    let xs = c.deref-field-items.result.now in
    let whole : take c.loop-field.field-index xs ≡ xs = grind (arith, common_steps) in
    rw (← c.deref-field-items.ensures.value) (rw whole at c.loop-field.invariant)
