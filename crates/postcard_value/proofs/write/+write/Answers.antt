-- Each kind of value writes the canonical encoding of its tree: its own bytes first, and then its parts in order.
use Rattle.std.proofs.Common.{◌≡◌, ◌<◌, length, Err, Ok, [], ◌∷◌, vec_len, arith, subst, rules}
use Rattle.std.specs.Prelude.{map}
use Rattle.std.proofs.lemmas.Grind.{common_steps}
use Rattle.postcard_wire.specs.Number.{digits}
use Rattle.postcard_wire.specs.Tree as nodes
use Rattle.postcard_ser.proofs.Elements.{elements_more, elements_cut, elements_count}
use Rattle.postcard_ser.proofs.PartByPart.{wrote_then, wrote_stop, wrote_err, wrote_ok}
use Rattle.postcard_value.specs.{Wrote, canonical, never, tree, trees}
use Rattle.postcard_value.specs.declared.value.Value.{Present, Seq, Variant, the_lemmas}
use Rattle.postcard_value.proofs.write.+write.Goals as goal

pub write_all-returns-in_err-write_value : goal.write_all-returns-in_err-write_value
write_all-returns-in_err-write_value g t c =
    let xs = c.deref-item-items.result.now in let k = c.loop-item.item-index in let x = c.item-item.result in let below : k < length xs = omega arith in
    rw (← c.deref-item-items.ensures.value) (wrote_err _ c.from_residual.ensures.1
    (subst (λ z. Wrote g.F.Flavor c.args.serializer.now.output z never ⊥ (Err c.in_err-write_value.field-0.0) c.write_value.new.serializer.output)
    (elements_cut tree xs k x below c.item-item.is)
    (wrote_then _ _ c.loop-item.invariant
    (wrote_stop _ _ c.in_err-write_value.ensures (λ e q. q) (λ t. t)) (λ e q. q) (λ t. t))))

pub write_all-loop-item-preserved : goal.write_all-loop-item-preserved
write_all-loop-item-preserved g t c =
    let xs = c.deref-item-items.result.now in let k = c.loop-item.item-index in let x = c.item-item.result in let below : k < length xs = omega arith in
    subst (λ z. Wrote g.F.Flavor c.args.serializer.now.output z never ⊥ (Ok tt) c.write_value.new.serializer.output)
    (elements_more tree xs k x below c.item-item.is)
    (wrote_then _ _ c.loop-item.invariant (wrote_ok c.in_ok-write_value.ensures) (λ e q. q) (λ t. t))

pub write_value-returns-in_err-serialize_u8-in-Present : goal.write_value-returns-in_err-serialize_u8-in-Present
write_value-returns-in_err-serialize_u8-in-Present g t c =
    let b = c.in-Present.content in
    let seen : tree (Present b) ≡ nodes.Present (tree b.value) = search (rules, the_lemmas) in
    rw (c.in-Present.is, seen) (wrote_err _ c.from_residual.ensures.1 (wrote_stop (1 ∷ []) (canonical
    (tree b.value)) c.in_err-serialize_u8-in-Present.ensures (λ e. absurd) absurd))

pub write_value-returns-in_ok-serialize_u8-in-Present : goal.write_value-returns-in_ok-serialize_u8-in-Present
write_value-returns-in_ok-serialize_u8-in-Present g t c =
    let b = c.in-Present.content in
    let seen : tree (Present b) ≡ nodes.Present (tree b.value) = search (rules, the_lemmas) in
    let d : c.deref-in-Present.result.now ≡ b.value = grind (arith, common_steps) in
    rw (c.in-Present.is, seen) (wrote_then (1 ∷ []) (canonical (tree b.value)) c.in_ok-serialize_u8-in-Present.ensures
    (rw d at c.write_value.ensures) (λ e q. q) (λ t. t))

pub write_value-returns-in_err-serialize_tuple_variant-in-Variant : goal.write_value-returns-in_err-serialize_tuple_variant-in-Variant
write_value-returns-in_err-serialize_tuple_variant-in-Variant g t c =
    let i = c.in-Variant.index in
    let b = c.in-Variant.content in
    let seen : tree (Variant i b) ≡ nodes.Variant i (tree b.value) = search (rules, the_lemmas) in
    rw (c.in-Variant.is, seen) (wrote_err _ c.from_residual-in_err-serialize_tuple_variant-in-Variant.ensures.1 (wrote_stop (digits i) (canonical
    (tree b.value)) c.in_err-serialize_tuple_variant-in-Variant.ensures (λ e. absurd) absurd))

pub write_value-returns-in_ok-serialize_tuple_variant-in-Variant : goal.write_value-returns-in_ok-serialize_tuple_variant-in-Variant
write_value-returns-in_ok-serialize_tuple_variant-in-Variant g t c =
    let i = c.in-Variant.index in
    let b = c.in-Variant.content in
    let seen : tree (Variant i b) ≡ nodes.Variant i (tree b.value) = search (rules, the_lemmas) in
    let d : c.deref-in-Variant.result.now ≡ b.value = grind (arith, common_steps) in
    rw (c.in-Variant.is, seen) (wrote_then (digits i) (canonical (tree b.value)) c.in_ok-serialize_tuple_variant-in-Variant.ensures
    (rw d at c.write_value-in-Variant.ensures) (λ e q. q) (λ t. t))

pub write_value-returns-in_err-serialize_seq-in-Seq : goal.write_value-returns-in_err-serialize_seq-in-Seq
write_value-returns-in_err-serialize_seq-in-Seq g t c =
    let v = c.in-Seq.items in
    let seen : tree (Seq v) ≡ nodes.Seq (trees (map tree v.items)) = search (rules, the_lemmas) in
    let n : vec_len v ≡ length v.items = grind (arith, common_steps) in
    rw (c.in-Seq.is, seen) (wrote_err _ c.from_residual-in_err-serialize_seq-in-Seq.ensures.1 (rw (elements_count tree v.items, ← n)
    (wrote_stop _ _ (rw c.len.ensures at c.in_err-serialize_seq-in-Seq.ensures.known) (λ e. absurd) absurd)))

pub write_value-returns-in_ok-serialize_seq-in-Seq : goal.write_value-returns-in_ok-serialize_seq-in-Seq
write_value-returns-in_ok-serialize_seq-in-Seq g t c =
    let v = c.in-Seq.items in
    let seen : tree (Seq v) ≡ nodes.Seq (trees (map tree v.items)) = search (rules, the_lemmas) in
    let n : vec_len v ≡ length v.items = grind (arith, common_steps) in
    rw (c.in-Seq.is, seen) (rw (elements_count tree v.items, ← n) (wrote_then _ _
    (rw c.len.ensures at c.in_ok-serialize_seq-in-Seq.ensures.known) c.write_all.ensures (λ e q. q) (λ t. t)))
