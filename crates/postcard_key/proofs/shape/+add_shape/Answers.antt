-- The digest has taken the text of each kind of type: the signs, and the texts of the parts in a row (`Steps`).
use Rattle.std.proofs.Common.{◌≡◌, ◌+◌, ◌∷◌, drop, sym, ap, ◌∙◌, arith}
use Rattle.std.proofs.lemmas.List.{drop_more}
use Rattle.postcard_schema.specs.Lemmas.{type_of_array, type_of_enum, type_of_map, type_of_option, type_of_seq, type_of_struct}
use Rattle.postcard_schema.specs.Meaning.{contents, type_of, types_of}
use Rattle.postcard_key.specs.Shape.{parts_text, shape_text, variants_text}
use Rattle.postcard_key.proofs.Steps.{map_text, then_text, with_text}
use Rattle.postcard_key.proofs.shape.+add_shape.Goals as goal

pub add_shape-returns-in-Option : goal.add_shape-returns-in-Option
add_shape-returns-in-Option t c =
    rw (c.in-Option.is, type_of_option c.in-Option.content, sym c.deref.ensures) (then_text c.add.ensures (then_text c.add_shape.ensures c.add-in-Option.ensures))

pub add_shape-returns-in-Seq : goal.add_shape-returns-in-Seq
add_shape-returns-in-Seq t c =
    rw (c.in-Seq.is, type_of_seq c.in-Seq.element, sym c.deref-in-Seq.ensures)
    (then_text c.add-in-Seq.ensures (then_text c.add_shape-in-Seq.ensures c.add-in-Seq-2.ensures))

pub add_shape-returns-in-Map : goal.add_shape-returns-in-Map
add_shape-returns-in-Map t c =
    rw (c.in-Map.is, type_of_map c.in-Map.key c.in-Map.value, sym c.deref-in-Map.ensures, sym c.deref-in-Map-2.ensures)
    (with_text (map_text (shape_text (type_of c.deref-in-Map.result.now)) (shape_text (type_of c.deref-in-Map-2.result.now)))
    (then_text c.add-in-Map.ensures (then_text c.add_shape-in-Map.ensures (then_text c.add-in-Map-2.ensures (then_text c.add_shape-in-Map-2.ensures c.add-in-Map-3.ensures)))))

pub add_shape-returns-in-Array : goal.add_shape-returns-in-Array
add_shape-returns-in-Array t c =
    rw (c.in-Array.is, type_of_array c.in-Array.element c.in-Array.count, sym c.deref-in-Array.ensures)
    (then_text c.add-in-Array.ensures (then_text c.add_shape-in-Array.ensures (then_text c.add-in-Array-2.ensures (then_text c.add_count.ensures c.add-in-Array-3.ensures))))

pub add_shape-returns-in-Struct : goal.add_shape-returns-in-Struct
add_shape-returns-in-Struct t c = rw (c.in-Struct.is, type_of_struct c.in-Struct.fields) c.add_fields.ensures

pub add_shape-returns-in-Enum : goal.add_shape-returns-in-Enum
add_shape-returns-in-Enum t c = rw (c.in-Enum.is, type_of_enum c.in-Enum.variants) c.add_variants.ensures

pub add_parts-loop-part-init : goal.add_parts-loop-part-init
add_parts-loop-part-init t c = λ e k. then_text c.add.ensures k

pub add_parts-loop-part-preserved : goal.add_parts-loop-part-preserved
add_parts-loop-part-preserved t c = λ e k.
    let l = c.loop-part in
    let xs = c.deref-part-items.result.now in
    let x = c.part-item.result in
    let rest = drop (l.part-index + 1) xs in
    let here : drop l.part-index xs ≡ x ∷ rest = drop_more xs l.part-index x (omega arith) ∙ ap (λ y. y ∷ rest) (sym c.part-item.is) in
    l.invariant e (with_text (ap (λ ss. parts_text (types_of ss)) (sym here)) (then_text c.add_shape.ensures (then_text c.add-in-loop-part.ensures k)))

pub add_fields-loop-field-init : goal.add_fields-loop-field-init
add_fields-loop-field-init t c = λ e k. then_text c.add.ensures k

pub add_fields-loop-field-preserved : goal.add_fields-loop-field-preserved
add_fields-loop-field-preserved t c = λ e k.
    let l = c.loop-field in
    let xs = c.deref-field-items.result.now in
    let x = c.field-item.result in
    let rest = drop (l.field-index + 1) xs in
    let here : drop l.field-index xs ≡ x ∷ rest = drop_more xs l.field-index x (omega arith) ∙ ap (λ y. y ∷ rest) (sym c.field-item.is) in
    l.invariant e (with_text (ap (λ ss. parts_text (types_of (contents ss))) (sym here)) (then_text c.add_shape.ensures (then_text c.add-in-loop-field.ensures k)))

pub add_variants-loop-variant-init : goal.add_variants-loop-variant-init
add_variants-loop-variant-init t c = λ e k. then_text c.add.ensures k

pub add_variants-loop-variant-preserved : goal.add_variants-loop-variant-preserved
add_variants-loop-variant-preserved t c = λ e k.
    let l = c.loop-variant in
    let xs = c.deref-variant-items.result.now in
    let x = c.variant-item.result in
    let rest = drop (l.variant-index + 1) xs in
    let here : drop l.variant-index xs ≡ x ∷ rest = drop_more xs l.variant-index x (omega arith) ∙ ap (λ y. y ∷ rest) (sym c.variant-item.is) in
    l.invariant e (with_text (ap (λ ss. variants_text (types_of (contents ss))) (sym here)) (then_text c.add-in-loop-variant.ensures (then_text c.add_shape.ensures k)))
