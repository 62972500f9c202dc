-- A value without parts is read, and its line added, or it is refused.
use Rattle.std.proofs.Common.{refl, sym, ◌∙◌, append-nil}
use Rattle.postcard_explain.specs.declared.line.Expected.TheVariants as expectations
use Rattle.postcard_explain.specs.Explained.{of_leaf}
use Rattle.postcard_explain.specs.Parts.{plain_label}
use Rattle.postcard_explain.specs.RefusedLines.{no_leaf}
use Rattle.postcard_explain.proofs.LineLemmas.{pushed, refused_as}
use Rattle.postcard_explain.proofs.part.explain_leaf.Goals as goal

pub returns-in_ok-push-in-Ok : goal.returns-in_ok-push-in-Ok
returns-in_ok-push-in-Ok c = λ most is.
    let r = c.in-Ok.ensures.gives in
    let p = c.in_ok-push-in-Ok.ensures.added in
    let shown = p.4 ∙ c.front_of.ensures r.front r.joins in
    pushed _ p.0 _ _ _ r.front _
    (of_leaf _ _ _ p.0 c.args.leaf c.in-Ok.value is p.2 (rw p.3 (refl, refl))
    (record { tree = r.tree; front = r.front; is_read = r.is_read; is_spelled = r.is_spelled; has = r.has; joins = shown ∙ sym (append-nil r.front) }))
    p.1 shown r.joins

pub returns-in-Err : goal.returns-in-Err
returns-in-Err c = λ most is.
    let s = c.args.schema.now in
    let b = plain_label c.args.place.label in
    refused_as most c.args.place.depth b s (expectations.Leaf c.args.leaf) c.in-Err.error _ _ c.args.bytes.now
    c.refuse.result
    (λ line at kind shown other. no_leaf _ _ s line c.args.leaf is at kind (λ front rest cut f. other (c.in-Err.ensures.accepts f.0 front rest f.1 f.2 (sym shown ∙ cut))))
    c.refuse.ensures
