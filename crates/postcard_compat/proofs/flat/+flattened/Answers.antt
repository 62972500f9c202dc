-- `flattened` and the functions under it, by the kind of type. A row is built part by part (`Flattening`).
use Rattle.std.proofs.Common.{◌≡◌, ◌<◌, ◌≤◌, [], ◌++◌, length, map, ap, sym, subst, ◌∙◌, arith}
use Rattle.std.proofs.lemmas.List.{take_all}
use Rattle.std.proofs.lemmas.Result.{IfOk-weaker}
use Rattle.postcard_schema.specs.Meaning.{group, row_of, type_of}
use Rattle.postcard_compat.specs.Parts.{part_types}
use Rattle.postcard_compat.specs.Serving.{SameMessages, SameRows}
use Rattle.postcard_compat.proofs.Alike.{no_rows_same, same_after}
use Rattle.postcard_compat.proofs.Splices.{whole_same}
use Rattle.postcard_compat.proofs.Flattening.{leaf_same, flat_option, flat_seq, flat_map, flat_enum, flat_tuple, flat_struct, flat_array, row_more, variant_more}
use Rattle.postcard_compat.proofs.flat.+flattened.Goals as goal

pub flattened-returns : goal.flattened-returns
flattened-returns t c =
    let es = part_types c.in_ok-row.row.items in
    let old = type_of c.args.schema.now in
    let h = same_after (type_of c.grouped.result) (group (row_of es)) old c.grouped.ensures (whole_same es old c.in_ok-row.ensures) in
    (h.serves, h.is_served)

pub boxed-returns : goal.boxed-returns
boxed-returns t c =
    subst (λ d. SameMessages (type_of d) (type_of c.args.schema.now)) (sym c.in_ok-new.ensures.ok)
    (record { serves = c.in_ok-flat.ensures.0; is_served = c.in_ok-flat.ensures.1 })

pub flat_row-returns-in_ok-flat_leaf-in-Leaf : goal.flat_row-returns-in_ok-flat_leaf-in-Leaf
flat_row-returns-in_ok-flat_leaf-in-Leaf t c =
    IfOk-weaker c.single.result _ _ (λ row h. h (type_of c.args.schema.now)
    (leaf_same c.args.schema.now c.in_ok-flat_leaf-in-Leaf.field-0 c.in-Leaf.leaf c.in_ok-flat_leaf-in-Leaf.ensures c.in-Leaf.is)) c.single.ensures

pub flat_row-returns-in_ok-boxed-in-Option : goal.flat_row-returns-in_ok-boxed-in-Option
flat_row-returns-in_ok-boxed-in-Option t c =
    IfOk-weaker c.single-in-Option.result _ _ (λ row h. h (type_of c.args.schema.now)
    (flat_option c.args.schema.now c.deref.result.now c.in-Option.content c.in_ok-boxed-in-Option.field-0 c.deref.ensures c.in_ok-boxed-in-Option.ensures c.in-Option.is)) c.single-in-Option.ensures

pub flat_row-returns-in_ok-boxed-in-Seq : goal.flat_row-returns-in_ok-boxed-in-Seq
flat_row-returns-in_ok-boxed-in-Seq t c =
    IfOk-weaker c.single-in-Seq.result _ _ (λ row h. h (type_of c.args.schema.now)
    (flat_seq c.args.schema.now c.deref-in-Seq.result.now c.in-Seq.element c.in_ok-boxed-in-Seq.field-0 c.deref-in-Seq.ensures c.in_ok-boxed-in-Seq.ensures c.in-Seq.is)) c.single-in-Seq.ensures

pub flat_row-returns-in_ok-new-in-Map : goal.flat_row-returns-in_ok-new-in-Map
flat_row-returns-in_ok-new-in-Map t c =
    let s = c.args.schema.now in
    let keys = part_types c.in_ok-key-in-Map.key.items in
    let values = part_types c.in_ok-value-in-Map.value.items in
    let entry = part_types c.append-in-Map.new.row.items in
    let box = c.in_ok-new-in-Map.field-0 in
    let both : entry ≡ keys ++ values =
    c.in_ok-append-in-Map-2.ensures ∙ ap (λ r. r ++ values) (c.in_ok-append-in-Map.ensures ∙ ap (λ ns. part_types ns ++ keys) c.new-entry.ensures.items) in
    let whole : SameMessages (type_of box.value) (group (row_of entry)) =
    subst (λ d. SameMessages (type_of d) (group (row_of entry))) (sym c.in_ok-new-in-Map.ensures.ok) c.grouped.ensures in
    IfOk-weaker c.single-in-Map.result _ _ (λ row h. h (type_of s)
    (flat_map s c.deref-in-Map.result.now c.deref-in-Map-2.result.now c.in-Map.key c.in-Map.value box keys values entry c.deref-in-Map.ensures c.deref-in-Map-2.ensures
    c.in_ok-key-in-Map.ensures c.in_ok-value-in-Map.ensures both whole c.in-Map.is)) c.single-in-Map.ensures

pub flat_row-returns-in_ok-element-in-Array : goal.flat_row-returns-in_ok-element-in-Array
flat_row-returns-in_ok-element-in-Array t c =
    let s = c.args.schema.now in
    let element = part_types c.in_ok-element-in-Array.element.items in
    IfOk-weaker c.array_row.result _ _ (λ row h.
    flat_array s c.deref-in-Array.result.now c.in-Array.element c.in-Array.count element (part_types row.items) c.deref-in-Array.ensures c.in_ok-element-in-Array.ensures h
    c.in-Array.is) c.array_row.ensures

pub flat_row-returns-in-Tuple : goal.flat_row-returns-in-Tuple
flat_row-returns-in-Tuple t c =
    IfOk-weaker c.tuple_row.result _ _ (λ row h. flat_tuple c.args.schema.now c.in-Tuple.parts (part_types row.items) h c.in-Tuple.is) c.tuple_row.ensures

pub flat_row-returns-in-Struct : goal.flat_row-returns-in-Struct
flat_row-returns-in-Struct t c =
    IfOk-weaker c.struct_row.result _ _ (λ row h. flat_struct c.args.schema.now c.in-Struct.fields (part_types row.items) h c.in-Struct.is) c.struct_row.ensures

pub flat_row-returns-in_ok-flat_variants-in-Enum : goal.flat_row-returns-in_ok-flat_variants-in-Enum
flat_row-returns-in_ok-flat_variants-in-Enum t c =
    IfOk-weaker c.single-in-Enum.result _ _ (λ row h. h (type_of c.args.schema.now)
    (flat_enum c.args.schema.now c.in-Enum.variants c.in_ok-flat_variants-in-Enum.field-0 c.in_ok-flat_variants-in-Enum.ensures c.in-Enum.is)) c.single-in-Enum.ensures

pub tuple_row-loop-number-init : goal.tuple_row-loop-number-init
tuple_row-loop-number-init t c = subst (λ ns. SameRows (part_types ns) []) (sym c.new-row.ensures.items) no_rows_same

pub tuple_row-loop-number-preserved : goal.tuple_row-loop-number-preserved
tuple_row-loop-number-preserved t c =
    let xs = c.deref-part-items.result.now in
    let i = c.loop-number.number-counter in
    let low : i < length xs = omega arith in
    row_more type_of xs i c.part-item.result (part_types c.loop-number.row.items) (part_types c.in_ok-inner.inner.items) (part_types c.append.new.row.items)
    low c.part-item.is c.loop-number.invariant c.in_ok-inner.ensures c.in_ok-append.ensures

pub tuple_row-returns : goal.tuple_row-returns
tuple_row-returns t c =
    let xs = c.deref-part-items.result.now in
    let high : length xs ≤ c.loop-number.number-counter = omega arith in
    subst (λ ps. SameRows (part_types c.loop-number.row.items) (map type_of ps)) (take_all c.loop-number.number-counter xs high ∙ c.deref-part-items.ensures.value)
    c.loop-number.invariant

pub struct_row-loop-field-init : goal.struct_row-loop-field-init
struct_row-loop-field-init t c = subst (λ ns. SameRows (part_types ns) []) (sym c.new-row.ensures.items) no_rows_same

pub struct_row-loop-field-preserved : goal.struct_row-loop-field-preserved
struct_row-loop-field-preserved t c =
    let xs = c.deref-field-items.result.now in
    let i = c.loop-field.field-index in
    let low : i < length xs = omega arith in
    row_more (λ n. type_of n.content) xs i c.field-item.result (part_types c.loop-field.row.items) (part_types c.in_ok-inner.inner.items) (part_types c.append.new.row.items)
    low c.field-item.is c.loop-field.invariant c.in_ok-inner.ensures c.in_ok-append.ensures

pub flat_variants-loop-variant-preserved : goal.flat_variants-loop-variant-preserved
flat_variants-loop-variant-preserved t c =
    let xs = c.deref-variant-items.result.now in
    let i = c.loop-variant.variant-index in
    let low : i < length xs = omega arith in
    variant_more xs i c.variant-item.result _ c.loop-variant.flat.items c.push.new.self.items low c.variant-item.is c.loop-variant.invariant
    (record { serves = c.in_ok-content.ensures.0; is_served = c.in_ok-content.ensures.1 }) c.in_ok-push.ensures.items
