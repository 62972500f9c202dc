-- The digest has taken the text of each kind of type: the signs, and the texts of the parts in a row (`Steps`).
use Rattle.std.proofs.Common.{◌≡◌, ◌+◌, ◌<◌, [], ◌∷◌, ◌++◌, length, drop, sym, ap, ◌∙◌, arith}
use Rattle.std.specs.Prelude.{codes}
use Rattle.std.proofs.lemmas.List.{drop_all, drop_more}
use Rattle.postcard_schema.proofs.ViewLemmas.{view_option, view_seq, view_map, view_array, view_struct, view_enum}
use Rattle.postcard_schema.specs.Views.{named_views, views}
use Rattle.postcard_schema.specs.Named.{named_fields_text, named_parts_text, named_variants_text}
use Rattle.postcard_key.proofs.Steps.{then_text, with_text}
use Rattle.postcard_key.proofs.Views.{enum_text, some_items}
use Rattle.postcard_key.proofs.named.+add_named.Goals as goal

pub add_named-returns-in-Option : goal.add_named-returns-in-Option
add_named-returns-in-Option t c =
    rw (c.in-Option.is, view_option c.in-Option.content, sym c.deref.ensures) (then_text c.add.ensures (then_text c.add_named.ensures c.add-in-Option.ensures))

pub add_named-returns-in-Seq : goal.add_named-returns-in-Seq
add_named-returns-in-Seq t c =
    rw (c.in-Seq.is, view_seq c.in-Seq.element, sym c.deref-in-Seq.ensures)
    (then_text c.add-in-Seq.ensures (then_text c.add_named-in-Seq.ensures c.add-in-Seq-2.ensures))

pub add_named-returns-in-Map : goal.add_named-returns-in-Map
add_named-returns-in-Map t c =
    rw (c.in-Map.is, view_map c.in-Map.key c.in-Map.value, sym c.deref-in-Map.ensures, sym c.deref-in-Map-2.ensures)
    (then_text c.add-in-Map.ensures (then_text c.add_named-in-Map.ensures (then_text c.add-in-Map-2.ensures (then_text c.add_named-in-Map-2.ensures c.add-in-Map-3.ensures))))

pub add_named-returns-in-Array : goal.add_named-returns-in-Array
add_named-returns-in-Array t c =
    rw (c.in-Array.is, view_array c.in-Array.element c.in-Array.count, sym c.deref-in-Array.ensures)
    (then_text c.add-in-Array.ensures (then_text c.add_named-in-Array.ensures (then_text c.add-in-Array-2.ensures (then_text c.add_count.ensures c.add-in-Array-3.ensures))))

pub add_named-returns-in-Struct : goal.add_named-returns-in-Struct
add_named-returns-in-Struct t c = rw (c.in-Struct.is, view_struct c.in-Struct.fields) c.add_fields.ensures

pub add_named-returns-in-Enum : goal.add_named-returns-in-Enum
add_named-returns-in-Enum t c = rw (c.in-Enum.is, view_enum c.in-Enum.variants) c.add_variants.ensures

pub add_parts-loop-part-init : goal.add_parts-loop-part-init
add_parts-loop-part-init t c = λ e k. then_text c.add.ensures k

pub add_parts-loop-part-preserved : goal.add_parts-loop-part-preserved
add_parts-loop-part-preserved t c = λ e k.
    let l = c.loop-part in
    let xs = c.deref-part-items.result.now in
    let x = c.part-item.result in
    let rest = drop (l.part-index + 1) xs in
    let here : drop l.part-index xs ≡ x ∷ rest = drop_more xs l.part-index x (omega arith) ∙ ap (λ y. y ∷ rest) (sym c.part-item.is) in
    l.invariant e (with_text (ap (λ ss. named_parts_text (views ss)) (sym here)) (then_text c.add_named.ensures (then_text c.add-in-loop-part.ensures k)))

pub add_fields-loop-field-init : goal.add_fields-loop-field-init
add_fields-loop-field-init t c = λ e k. then_text c.add.ensures k

pub add_fields-loop-field-preserved : goal.add_fields-loop-field-preserved
add_fields-loop-field-preserved t c = λ e k.
    let l = c.loop-field in
    let xs = c.deref-field-items.result.now in
    let x = c.field-item.result in
    let rest = drop (l.field-index + 1) xs in
    let here : drop l.field-index xs ≡ x ∷ rest = drop_more xs l.field-index x (omega arith) ∙ ap (λ y. y ∷ rest) (sym c.field-item.is) in
    l.invariant e (with_text (ap (λ ss. named_fields_text (named_views ss)) (sym here))
    (then_text (with_text c.deref.ensures c.add-in-loop-field.ensures) (then_text c.add-in-loop-field-2.ensures (then_text c.add_named.ensures (then_text c.add-in-loop-field-3.ensures k)))))

pub add_variants-loop-variant-init : goal.add_variants-loop-variant-init
add_variants-loop-variant-init t c = λ e k. then_text c.add-2.ensures k

pub add_variants-loop-variant-preserved : goal.add_variants-loop-variant-preserved
add_variants-loop-variant-preserved t c = λ e k.
    let l = c.loop-variant in
    let xs = c.deref-variant-items.result.now in
    let x = c.variant-item.result in
    let rest = drop (l.variant-index + 1) xs in
    let here : drop l.variant-index xs ≡ x ∷ rest = drop_more xs l.variant-index x (omega arith) ∙ ap (λ y. y ∷ rest) (sym c.variant-item.is) in
    l.invariant e (with_text (ap (λ ss. named_variants_text (named_views ss)) (sym here)) (then_text c.add-in-loop-variant.ensures
    (then_text (with_text c.deref.ensures c.add-in-loop-variant-2.ensures) (then_text c.add-in-loop-variant-3.ensures (then_text c.add_named.ensures (then_text c.add-in-loop-variant-4.ensures k))))))

pub add_variants-returns : goal.add_variants-returns
add_variants-returns t c =
    let l = c.loop-variant in
    let items = c.args.variants.now.items in
    let same = c.deref-variant-items.ensures.value in
    let some : 0 < length items = omega (arith, some_items c.args.variants.now.len c.if-is_empty.ensures, c.deref-variant-items.ensures.len, ap (λ ns. length ns) same) in
    let none : drop l.variant-index c.deref-variant-items.result.now ≡ [] = drop_all l.variant-index c.deref-variant-items.result.now c.loop-variant-test.false in
    with_text (ap (λ ns. codes "(" ++ named_variants_text (named_views ns)) same ∙ sym (enum_text items some))
    (l.invariant c.add-3.new.digest (with_text (ap (λ ns. named_variants_text (named_views ns)) (sym none)) c.add-3.ensures))
