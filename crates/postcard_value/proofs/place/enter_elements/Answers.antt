-- The elements before the loop's place were read. So the first that can't be read is the one at that place.
use Rattle.std.proofs.Common.{[], ◌++◌, refl, sym, ap, ◌∙◌, append_assoc}
use Rattle.postcard_wire.specs.Tree.{NoTrees}
use Rattle.postcard_schema.specs.Meaning.{type_of}
use Rattle.postcard_value.proofs.FrontLemmas.{each_more}
use Rattle.postcard_value.proofs.place.enter_elements.Goals as goal

pub loop-i-init : goal.loop-i-init
loop-i-init c = ([], (NoTrees, (refl, tt), refl), refl, refl)

pub loop-i-preserved : goal.loop-i-preserved
loop-i-preserved c =
    let so = c.loop-i.invariant in
    let r = c.in-Ok.ensures.gives in
    let joins = so.2 ∙ ap (λ q. so.0 ++ q) r.joins ∙ sym (append_assoc so.0 r.front c.in-Ok.after.now) in
    (so.0 ++ r.front, each_more (type_of c.args.element.now) c.loop-i.i r.tree so.0 r.front so.1 r.is_read r.is_spelled, joins, so.3)
