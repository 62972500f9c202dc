-- The count is written, and then the elements of both slices.
use Rattle.std.proofs.Common.{◌≡◌, ◌++◌, Err, length, ap, subst, ◌∙◌, sym, length-append}
use Rattle.std.specs.Prelude.{map, Any}
use Rattle.postcard_wire.specs.Number.{digits}
use Rattle.postcard_wire.specs.Spelling.{canonical_all}
use Rattle.postcard_wire.specs.Tree.{trees}
use Rattle.postcard_ser.specs.Writing.{Wrote}
use Rattle.postcard_ser.proofs.Elements.{elements_append, elements_count, any_left, any_right}
use Rattle.postcard_ser.proofs.PartByPart.{wrote_then, wrote_stop, wrote_err}
use Rattle.postcard_ser.proofs.values.lists.VecDequeSerialize.serialize.Goals as goal

pub returns-in_err-serialize_seq-clause-wrote : goal.returns-in_err-serialize_seq-clause-wrote
returns-in_err-serialize_seq-clause-wrote g c =
    let xs = c.args.self.now.items in
    let parts = c.as_slices.result in
    let n : c.len.result ≡ length xs = c.len.ensures ∙ sym c.as_slices.ensures.len ∙ sym (length-append parts.0.now parts.1.now) ∙ ap length c.as_slices.ensures.items in
    wrote_err _ c.from_residual.ensures.1
    (rw (elements_count g.T.Shaped.shape.tree xs)
    (wrote_stop _ _ (rw n at c.in_err-serialize_seq.ensures.known) (λ e. absurd) absurd))

pub returns-in_err-serialize_all-clause-wrote : goal.returns-in_err-serialize_all-clause-wrote
returns-in_err-serialize_all-clause-wrote g c =
    let s = g.T.Shaped.shape in
    let xs = c.args.self.now.items in
    let parts = c.as_slices.result in
    let a = parts.0.now in
    let b = parts.1.now in
    let n : c.len.result ≡ length xs = c.len.ensures ∙ sym c.as_slices.ensures.len ∙ sym (length-append a b) ∙ ap length c.as_slices.ensures.items in
    wrote_err _ c.from_residual-in_err-serialize_all.ensures.1
    (rw (elements_count s.tree xs)
    (subst (λ z. Wrote g.F.Flavor c.args.serializer.now.output (digits (length xs) ++ canonical_all (trees (map s.tree z))) (λ e. Any (λ x. s.refusal x e) z) s.text (Err c.in_err-serialize_all.field-0.0) c.serialize_all.new.serializer.output)
    c.as_slices.ensures.items
    (rw (elements_append s.tree a b)
    (wrote_then _ _ (rw n at c.in_ok-serialize_seq.ensures.known)
    (wrote_stop _ _ c.in_err-serialize_all.ensures.wrote (λ e. any_left a b) (λ t. t)) (λ e q. q) (λ t. t)))))

pub returns-clause-wrote : goal.returns-clause-wrote
returns-clause-wrote g c =
    let s = g.T.Shaped.shape in
    let xs = c.args.self.now.items in
    let parts = c.as_slices.result in
    let a = parts.0.now in
    let b = parts.1.now in
    let n : c.len.result ≡ length xs = c.len.ensures ∙ sym c.as_slices.ensures.len ∙ sym (length-append a b) ∙ ap length c.as_slices.ensures.items in
    rw (elements_count s.tree xs)
    (subst (λ z. Wrote g.F.Flavor c.args.serializer.now.output (digits (length xs) ++ canonical_all (trees (map s.tree z))) (λ e. Any (λ x. s.refusal x e) z) s.text c.serialize_all-2.result c.serialize_all-2.new.serializer.output)
    c.as_slices.ensures.items
    (rw (elements_append s.tree a b)
    (wrote_then _ _ (rw n at c.in_ok-serialize_seq.ensures.known)
    (wrote_then _ _ c.in_ok-serialize_all.ensures.wrote c.serialize_all-2.ensures.wrote (λ e. any_right a b) (λ t. t)) (λ e q. q) (λ t. t))))
