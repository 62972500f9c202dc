-- The fields before the loop's place were read. The first that can't be read is the part that is returned.
use Rattle.std.proofs.Common.{◌≡◌, ◌<◌, [], ◌∷◌, ◌++◌, length, take, take_all, sym, ap, ◌∙◌, arith, append_assoc}
use Rattle.postcard_schema.specs.declared.path.Step.TheVariants.{Name}
use Rattle.postcard_schema.specs.Lemmas.{type_of_struct}
use Rattle.postcard_value.specs.{contents, type_of}
use Rattle.postcard_value.specs.Refused.{in_struct}
use Rattle.postcard_value.proofs.FrontLemmas.{field_more, parts_none, field_depth}
use Rattle.postcard_value.proofs.place.enter_struct.Goals as goal

pub loop-field-preserved : goal.loop-field-preserved
loop-field-preserved c =
    let so = c.loop-field.invariant in
    let r = c.in-Ok.ensures.gives in
    let xs = c.deref-field-items.result.now in
    let i = c.loop-field.field-index in
    let low : i < length xs = omega arith in
    let more = field_more xs i c.field-item.result so.0 r.front low c.field-item.is so.1 (r.tree, r.is_read, r.is_spelled) in
    (so.0 ++ r.front, more, so.2 ∙ ap (λ q. so.0 ++ q) r.joins ∙ sym (append_assoc so.0 r.front c.in-Ok.after.now), so.3)

pub returns-in_default-clause-found : goal.returns-in_default-clause-found
returns-in_default-clause-found c = λ s is.
    let so = c.loop-field.invariant in
    let xs = c.deref-field-items.result.now in
    let whole = c.deref-field-items.ensures.value in
    let i = c.loop-field.field-index in
    let x = c.field-item.result in
    let inside : i < length xs = omega arith in
    let low = rw whole at inside in
    let found = rw whole at c.field-item.is in
    let name = c.deref.result in
    let entered = in_struct s c.args.fields.now i x name so.0 is low found c.deref.ensures (rw whole at so.1) in
    let path = rw so.3 at c.in_ok-push-in_default.ensures.items in
    let less = field_depth s c.args.fields.now i x is low found in
    let accepts = c.in-Err.ensures.accepts in
    let other = c.in_default.not-OutOfMemory in
    ((so.0, Name name ∷ [], entered, path, so.2, λ none front rest cut f. other (accepts f.0 front rest f.1 f.2 cut)), less)

pub returns-clause-found : goal.returns-clause-found
returns-clause-found c = λ s is.
    let so = c.loop-field.invariant in
    let xs = c.deref-field-items.result.now in
    let whole : take c.loop-field.field-index xs ≡ c.args.fields.now.items = take_all c.loop-field.field-index xs
    (omega arith) ∙ c.deref-field-items.ensures.value in
    let known = ap type_of is ∙ type_of_struct c.args.fields.now in
    let all = contents c.args.fields.now.items in
    (λ none. absurd (parts_none s all c.args.bytes.now so.0 c.loop-field.rest.now known so.2 (rw whole at so.1) none), so.3)
