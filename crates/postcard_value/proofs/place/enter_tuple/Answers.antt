-- The parts before the loop's place were read. The first that can't be read is the part that is returned.
use Rattle.std.proofs.Common.{◌≡◌, ◌<◌, [], ◌∷◌, ◌++◌, length, take, take_all, sym, ap, ◌∙◌, arith, append_assoc}
use Rattle.postcard_schema.specs.declared.path.Step.TheVariants.{Part}
use Rattle.postcard_schema.specs.Lemmas.{type_of_tuple}
use Rattle.postcard_value.specs.{type_of}
use Rattle.postcard_value.specs.Refused.{in_tuple}
use Rattle.postcard_value.proofs.FrontLemmas.{part_more, parts_none, part_depth}
use Rattle.postcard_value.proofs.place.enter_tuple.Goals as goal

pub loop-i-preserved : goal.loop-i-preserved
loop-i-preserved c =
    let so = c.loop-i.invariant in
    let r = c.in-Ok.ensures.gives in
    let xs = c.deref-part-items.result.now in
    let low : c.loop-i.i < length xs = omega arith in
    let more = part_more xs c.loop-i.i c.part-item.result so.0 r.front low c.part-item.is so.1 (r.tree, r.is_read, r.is_spelled) in
    (so.0 ++ r.front, more, so.2 ∙ ap (λ q. so.0 ++ q) r.joins ∙ sym (append_assoc so.0 r.front c.in-Ok.after.now), so.3)

pub returns-in_default-clause-found : goal.returns-in_default-clause-found
returns-in_default-clause-found c = λ s is.
    let so = c.loop-i.invariant in
    let xs = c.deref-part-items.result.now in
    let whole = c.deref-part-items.ensures.value in
    let i = c.loop-i.i in
    let x = c.part-item.result in
    let inside : i < length xs = omega arith in
    let low = rw whole at inside in
    let found = rw whole at c.part-item.is in
    let entered = in_tuple s c.args.parts.now i x so.0 is low found (rw whole at so.1) in
    let path = rw so.3 at c.in_ok-push-in_default.ensures.items in
    let less = part_depth s c.args.parts.now i x is low found in
    let accepts = c.in-Err.ensures.accepts in
    let other = c.in_default.not-OutOfMemory in
    ((so.0, Part i ∷ [], entered, path, so.2, λ none front rest cut f. other (accepts f.0 front rest f.1 f.2 cut)), less)

pub returns-clause-found : goal.returns-clause-found
returns-clause-found c = λ s is.
    let so = c.loop-i.invariant in
    let xs = c.deref-part-items.result.now in
    let whole : take c.loop-i.i xs ≡ c.args.parts.now.items = take_all c.loop-i.i xs (omega arith) ∙ c.deref-part-items.ensures.value in
    let known = ap type_of is ∙ type_of_tuple c.args.parts.now in
    (λ none. absurd (parts_none s c.args.parts.now.items c.args.bytes.now so.0 c.loop-i.rest.now known so.2 (rw whole at so.1) none), so.3)
