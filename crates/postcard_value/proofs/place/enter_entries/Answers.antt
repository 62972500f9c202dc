-- The entries before the loop's place were read. So the first part that can't be read is in the entry at that place.
use Rattle.std.proofs.Common.{[], ◌++◌, refl, sym, ap, ◌∙◌, append_assoc}
use Rattle.postcard_wire.specs.Tree.{NoTrees}
use Rattle.postcard_schema.specs.Meaning.{entry_of, type_of}
use Rattle.postcard_value.proofs.FrontLemmas.{each_more, entry_spelled}
use Rattle.postcard_value.proofs.place.enter_entries.Goals as goal

pub loop-i-init : goal.loop-i-init
loop-i-init c = ([], (NoTrees, (refl, tt), refl), refl, refl)

pub loop-i-preserved : goal.loop-i-preserved
loop-i-preserved c =
    let so = c.loop-i.invariant in
    let k = type_of c.args.key.now in
    let v = type_of c.args.value.now in
    let r = c.in-Ok.ensures.gives in
    let q = c.in-Ok-take_from_bytes.ensures.gives in
    let after = c.in-Ok-take_from_bytes.after.now in
    let own = r.front ++ q.front in
    let e = entry_spelled k v r.front q.front (r.tree, r.is_read, r.is_spelled) (q.tree, q.is_read, q.is_spelled) in
    let entry_joins = r.joins ∙ ap (λ x. r.front ++ x) q.joins ∙ sym (append_assoc r.front q.front after) in
    let joins = so.2 ∙ ap (λ x. so.0 ++ x) entry_joins ∙ sym (append_assoc so.0 own after) in
    (so.0 ++ own, each_more (entry_of k v) c.loop-i.i e.0 so.0 own so.1 e.1 e.2, joins, so.3)
