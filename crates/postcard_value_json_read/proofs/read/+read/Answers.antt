-- The mutually recursive readers of values from JSON, by the kind of the schema. A value that is read is the only one that the JSON
-- denotes, and JSON that is refused denotes none (`Answered`). The answer of a whole is that of its parts in order.
use Rattle.std.proofs.Common.{◌≡◌, None, Some, ◌+◌, ◌<◌, ◌^◌, ◌++◌, true, false, [], ◌∷◌, map, take, length, vec_len, get_or, codes, Vec, Global, sym, ap, subst, ◌∙◌, true≢false, take_all, arith, rules, Bool}
use Rattle.std.specs.Prelude.{is_some}
use Rattle.std.specs.Bool.{◌==◌}
use Rattle.std.proofs.lemmas.Bool.Decides.{Decides-ltb}
use Rattle.std.proofs.lemmas.Grind.{common_steps}
use Rattle.std.proofs.lemmas.List.{take_more}
use Rattle.postcard_wire.specs.Tree.{Trees, trees, count}
use Rattle.postcard_wire.specs.Tree as nodes
use Rattle.postcard_ser.proofs.Elements.{elements_count}
use Rattle.postcard_schema.specs.Lemmas.{type_of_array, type_of_enum, type_of_map, type_of_seq, type_of_struct}
use Rattle.postcard_schema.specs.Meaning.{contents, entry_of, reads, type_of, types_of}
use Rattle.postcard_schema.specs.Meaning as types
use Rattle.postcard_value.specs.Tree.{tree}
use Rattle.postcard_value.specs.declared.value.Value.{Value, Absent, Seq, Group, Variant, the_lemmas}
use Rattle.postcard_value_text.specs.Accepted.{AreNamed, HasDistinctNames, HaveDistinctNames}
use Rattle.postcard_value_text.specs.Layout.{fields_of, layout_of, layouts_of}
use Rattle.postcard_value_text.specs.Layout as layouts
use Rattle.postcard_value_text.proofs.Groups.{distinct_at, named_at}
use Rattle.postcard_value_text.proofs.Layouts.{layout_of_array, layout_of_enum, layout_of_map, layout_of_seq, layout_of_struct}
use Rattle.serde_json.specs.Data as values
use Rattle.serde_json.specs.Find.{get}
use Rattle.serde_json.specs.View.{view, items_view}
use Rattle.postcard_value_json.specs.Written.{can_be_null}
use Rattle.postcard_value_json_read.specs.Reading.{AreItems, IsEntryJson, IsJsonOf, IsOptionJson, Reading}
use Rattle.postcard_value_json_read.specs.Accepted.{Answers, ArePartsReading, IsContentReading, IsEntryReading, IsMemberReading, IsOnly, IsReading, Reads}
use Rattle.postcard_value_json_read.proofs.Forms.{null_is, not_null_is, array_is, no_array}
use Rattle.postcard_value_json_read.proofs.Ends.{none_left}
use Rattle.postcard_value_json_read.proofs.Answered.{absent_only, held_answer, held_form, held_only, is_err, items_more, items_only, item_at, items_count, map_item, list_form, list_only, list_other, array_form, array_only, array_other, boxed, answer_by}
use Rattle.postcard_value_json_read.proofs.Groups.{entry_at, entry_form, entry_only, field_at, fields_more, fields_only, member_from, part_at, parts_more, parts_only, same_items, struct_form, struct_only, tuple_form, tuple_only}
use Rattle.postcard_value_json_read.proofs.Variants.{content_from, content_to, one_index, other_content, same_content, unit_content, unit_only, variant_by, variant_form, variant_only}
use Rattle.postcard_value_json_read.proofs.read.+read.Goals as goal

-- ---- read

pub read-returns-in-Seq : goal.read-returns-in-Seq
read-returns-in-Seq t c = rw (c.in-Seq.is, type_of_seq c.in-Seq.element, layout_of_seq c.in-Seq.element) (rw c.deref-in-Seq.ensures at c.read_list.ensures)

pub read-returns-in-Array : goal.read-returns-in-Array
read-returns-in-Array t c =
    rw (c.in-Array.is, type_of_array c.in-Array.element c.in-Array.count, layout_of_array c.in-Array.element c.in-Array.count) (rw c.deref-in-Array.ensures at c.read_array.ensures)

pub read-returns-in-Struct : goal.read-returns-in-Struct
read-returns-in-Struct t c = rw (c.in-Struct.is, type_of_struct c.in-Struct.fields, layout_of_struct c.in-Struct.fields) c.read_struct.ensures

pub read-returns-in-Enum : goal.read-returns-in-Enum
read-returns-in-Enum t c = rw (c.in-Enum.is, type_of_enum c.in-Enum.variants, layout_of_enum c.in-Enum.variants) c.read_variant.ensures

pub read_part-returns-in-Err : goal.read_part-returns-in-Err
read_part-returns-in-Err t c = λ names u r. c.within.ensures.memory (c.in-Err.ensures names u r)

-- ---- options

pub read_option-returns-then-is_null : goal.read_option-returns-then-is_null
read_option-returns-then-is_null t c =
    let d = view c.args.json.now in
    let seen : tree Absent ≡ nodes.Absent = search (rules, the_lemmas) in
    rw seen (absent_only (type_of c.args.content.now) (layout_of c.args.content.now) d (null_is d (sym c.is_null.ensures ∙ c.if-is_null.true)))

pub read_option-returns-in_err-value : goal.read_option-returns-in_err-value
read_option-returns-in_err-value t c =
    let d = view c.args.json.now in
    let full = not_null_is d (sym c.is_null.ensures ∙ c.if-is_null.false) in
    rw (is_err c.from_residual.result _ c.from_residual.ensures.1)
    (λ names u r. let k = held_form (type_of c.args.content.now) (layout_of c.args.content.now) u d full r in c.in_err-value.ensures names k.0 k.2)

pub read_option-returns : goal.read_option-returns
read_option-returns t c =
    let d = view c.args.json.now in
    let m = type_of c.args.content.now in
    let x = layout_of c.args.content.now in
    let v = tree c.in_ok-value.value in
    let full = not_null_is d (sym c.is_null.ensures ∙ c.if-is_null.false) in
    boxed (HasDistinctNames x) (IsReading (types.option m) (layouts.option x)) (nodes.Present v) d c.present.result c.present.ensures (held_only m x v d full c.in_ok-value.ensures)

pub read_held-returns-then-not-may_be_null : goal.read_held-returns-then-not-may_be_null
read_held-returns-then-not-may_be_null t c =
    let x = layout_of c.args.content.now in
    let plain : can_be_null x ≡ false = sym c.may_be_null.ensures ∙ c.if-not-may_be_null.true in
    let R : Bool → Reading = λ b s e. reads (type_of c.args.content.now) s × IsOptionJson b (IsJsonOf x) (nodes.Present s) e in
    subst (λ b. Answers (HasDistinctNames x) tree (R b) (view c.args.json.now) c.read.result) (sym plain) c.read.ensures

pub read_held-returns-in_default : goal.read_held-returns-in_default
read_held-returns-in_default t c =
    let x = layout_of c.args.content.now in
    let may : can_be_null x ≡ true = sym c.may_be_null.ensures ∙ c.if-not-may_be_null.false in
    λ names u r. let k = subst (λ b. IsOptionJson b (IsJsonOf x) (nodes.Present u) (view c.args.json.now)) may r.1 in absurd (c.in_default.ensures.none k.0 k.1)

pub read_held-returns : goal.read_held-returns
read_held-returns t c =
    let s = c.args.content.now in
    let may : can_be_null (layout_of s) ≡ true = sym c.may_be_null.ensures ∙ c.if-not-may_be_null.false in
    held_answer (type_of s) (layout_of s) (view c.args.json.now) (view c.in-Some.held.now) c.read_part.result may c.in-Some.ensures.found c.read_part.ensures

-- ---- lists and arrays

pub read_list-returns-in_default : goal.read_list-returns-in_default
read_list-returns-in_default t c =
    let d = view c.args.json.now in
    let P = reads (type_of c.args.element.now) in
    let R = IsJsonOf (layout_of c.args.element.now) in
    λ names u r. absurd (list_other P R u d (λ ds is. no_array d ds (rw c.in_default.is at c.as_array.ensures) is) r)

pub read_list-returns-in_err-values : goal.read_list-returns-in_err-values
read_list-returns-in_err-values t c =
    let d = view c.args.json.now in
    let x = layout_of c.args.element.now in
    let ds = items_view c.in-Some.items.now.items in
    let form : d ≡ values.array ds = array_is d ds (rw c.in-Some.is at c.as_array.ensures) in
    rw (is_err c.from_residual.result _ c.from_residual.ensures.1) (λ names u r.
    let k = list_form (reads (type_of c.args.element.now)) (IsJsonOf x) u ds (rw form at r) in c.in_err-values.ensures names k.0 k.2)

pub read_list-returns : goal.read_list-returns
read_list-returns t c =
    let d = view c.args.json.now in
    let v = c.in_ok-values.values in
    let x = layout_of c.args.element.now in
    let ts = trees (map tree v.items) in
    let ds = items_view c.in-Some.items.now.items in
    let seen : tree (Seq v) ≡ nodes.Seq ts = search (rules, the_lemmas) in
    let form : d ≡ values.array ds = array_is d ds (rw c.in-Some.is at c.as_array.ensures) in
    let few : count ts < 2 ^ 64 = omega (arith, v.small, elements_count tree v.items) in
    rw (seen, form) (list_only (reads (type_of c.args.element.now)) (IsJsonOf x) (HasDistinctNames x) ts ds few c.in_ok-values.ensures)

pub read_array-returns-in_default : goal.read_array-returns-in_default
read_array-returns-in_default t c =
    let d = view c.args.json.now in
    let P = reads (type_of c.args.element.now) in
    let R = IsJsonOf (layout_of c.args.element.now) in
    λ names u r. absurd (array_other P R c.args.count u d (λ ds is. no_array d ds (rw c.in_default.is at c.as_array.ensures) is) r)

pub read_array-returns-in_err-values : goal.read_array-returns-in_err-values
read_array-returns-in_err-values t c =
    let d = view c.args.json.now in
    let x = layout_of c.args.element.now in
    let ds = items_view c.in-Some.items.now.items in
    let form : d ≡ values.array ds = array_is d ds (rw c.in-Some.is at c.as_array.ensures) in
    rw (is_err c.from_residual.result _ c.from_residual.ensures.1) (λ names u r.
    let k = array_form (reads (type_of c.args.element.now)) (IsJsonOf x) c.args.count u ds (rw form at r) in c.in_err-values.ensures names k.0 k.3)

pub read_array-returns-then-len-count : goal.read_array-returns-then-len-count
read_array-returns-then-len-count t c =
    let d = view c.args.json.now in
    let m = type_of c.args.element.now in
    let x = layout_of c.args.element.now in
    let v = c.in_ok-values.values in
    let ds = items_view c.in-Some.items.now.items in
    let form : d ≡ values.array ds = array_is d ds (rw c.in-Some.is at c.as_array.ensures) in
    λ names u r.
    let k = array_form (reads m) (IsJsonOf x) c.args.count u ds (rw form at r) in
    let long : length v.items ≡ c.args.count =
    sym (elements_count tree v.items) ∙ items_count (IsReading m x) (trees (map tree v.items)) ds c.in_ok-values.ensures.0 ∙ sym (items_count (IsReading m x) k.0 ds k.3) ∙ k.2 in
    absurd (grind (arith, common_steps, long))

pub read_array-returns : goal.read_array-returns
read_array-returns t c =
    let d = view c.args.json.now in
    let v = c.in_ok-values.values in
    let x = layout_of c.args.element.now in
    let ts = trees (map tree v.items) in
    let ds = items_view c.in-Some.items.now.items in
    let seen : tree (Group v) ≡ nodes.Group ts = search (rules, the_lemmas) in
    let form : d ≡ values.array ds = array_is d ds (rw c.in-Some.is at c.as_array.ensures) in
    let long : length v.items ≡ c.args.count = grind (arith, common_steps) in
    rw (seen, form) (array_only (reads (type_of c.args.element.now)) (IsJsonOf x) (HasDistinctNames x) c.args.count ts ds (elements_count tree v.items ∙ long) c.in_ok-values.ensures)

-- ---- items

pub read_items-loop-i-init : goal.read_items-loop-i-init
read_items-loop-i-init t c = rw c.new-values.ensures.items tt

pub read_items-returns-in_err-value : goal.read_items-returns-in_err-value
read_items-returns-in_err-value t c =
    let m = type_of c.args.element.now in
    let x = layout_of c.args.element.now in
    rw (is_err c.from_residual.result _ c.from_residual.ensures.1) (λ names us h.
    let all = subst (λ ys. AreItems (IsReading m x) us (items_view ys)) (sym c.deref-item-items.ensures.value) h in
    let k = item_at (IsReading m x) us c.deref-item-items.result.now c.loop-i.i c.item-item.result all (omega arith) c.item-item.is in
    c.in_err-value.ensures names k.0 k.1)

pub read_items-returns-in_err-push : goal.read_items-returns-in_err-push
read_items-returns-in_err-push t c =
    rw (is_err c.from_residual-in_err-push.result _ c.from_residual-in_err-push.ensures.1) (λ names u r. c.in_err-push.ensures.only_out_of_memory)

pub read_items-loop-i-preserved : goal.read_items-loop-i-preserved
read_items-loop-i-preserved t c =
    let l = c.loop-i in
    let xs = c.deref-item-items.result.now in
    let x = c.item-item.result in
    let y = layout_of c.args.element.now in
    let R = IsOnly (HasDistinctNames y) (IsReading (type_of c.args.element.now) y) in
    let next : take (l.i + 1) xs ≡ take l.i xs ++ x ∷ [] = take_more xs l.i x (omega arith) ∙ ap (λ z. take l.i xs ++ z ∷ []) (sym c.item-item.is) in
    rw (c.in_ok-push.ensures.added, next) (items_more R l.values.items (take l.i xs) c.in_ok-value.value x l.invariant c.in_ok-value.ensures)

pub read_items-returns : goal.read_items-returns
read_items-returns t c =
    let l = c.loop-i in
    let xs = c.deref-item-items.result.now in
    let y = layout_of c.args.element.now in
    let R = IsReading (type_of c.args.element.now) y in
    let D = HasDistinctNames y in
    let whole : take l.i xs ≡ c.args.items.now.items = take_all l.i xs (omega arith) ∙ c.deref-item-items.ensures.value in
    items_only D R (trees (map tree l.values.items)) (items_view c.args.items.now.items) (subst (λ ys. AreItems (IsOnly D R) (trees (map tree l.values.items)) (items_view ys)) whole l.invariant)

-- ---- maps

pub read-returns-in_default : goal.read-returns-in_default
read-returns-in_default t c =
    let k = c.in-Map.key in
    let v = c.in-Map.value in
    let E = IsEntryJson (IsJsonOf (layout_of k.value)) (IsJsonOf (layout_of v.value)) in
    rw (c.in-Map.is, type_of_map k v, layout_of_map k v)
    (λ names u r. absurd (list_other (reads (entry_of (type_of k.value) (type_of v.value))) E u (view c.args.json.now) (λ ds is. no_array _ ds (rw c.in_default.is at c.as_array.ensures) is) r))

pub read-loop-i-init : goal.read-loop-i-init
read-loop-i-init t c = rw c.new-entries.ensures.items tt

pub read-returns-in_default-pair_in : goal.read-returns-in_default-pair_in
read-returns-in_default-pair_in t c =
    let k = c.in-Map.key in
    let v = c.in-Map.value in
    let form = array_is (view c.args.json.now) (items_view c.in-Some.items.now.items) (rw c.in-Some.is at c.as_array.ensures) in
    rw (c.in-Map.is, type_of_map k v, layout_of_map k v) (λ names u r.
    let here = map_item _ _ _ _ u _ _ _ c.loop-i.i c.item-item.result r form c.deref-item-items.ensures.value (omega arith) c.item-item.is in
    let m = entry_form _ _ _ _ here.0 _ here.1 in
    absurd (c.in_default-pair_in.ensures.none m.2 m.3 m.5))

pub read-returns-in_err-first-in-Map : goal.read-returns-in_err-first-in-Map
read-returns-in_err-first-in-Map t c =
    let k = c.in-Map.key in
    let v = c.in-Map.value in
    let form = array_is (view c.args.json.now) (items_view c.in-Some.items.now.items) (rw c.in-Some.is at c.as_array.ensures) in
    rw (is_err c.from_residual.result _ c.from_residual.ensures.1, c.in-Map.is, type_of_map k v, layout_of_map k v) (λ names u r.
    let here = map_item _ _ _ _ u _ _ _ c.loop-i.i c.item-item.result r form c.deref-item-items.ensures.value (omega arith) c.item-item.is in
    let m = entry_at _ _ _ _ here.0 _ _ _ c.in-Some-pair_in.ensures.found here.1 in
    (rw c.deref-in-loop-i.ensures at c.in_err-first-in-Map.ensures) names.0 m.0 m.3)

pub read-returns-in_err-second-in-Map : goal.read-returns-in_err-second-in-Map
read-returns-in_err-second-in-Map t c =
    let k = c.in-Map.key in
    let v = c.in-Map.value in
    let form = array_is (view c.args.json.now) (items_view c.in-Some.items.now.items) (rw c.in-Some.is at c.as_array.ensures) in
    let back = c.from_residual-in_err-second-in-Map in
    rw (is_err back.result _ back.ensures.1, c.in-Map.is, type_of_map k v, layout_of_map k v) (λ names u r.
    let here = map_item _ _ _ _ u _ _ _ c.loop-i.i c.item-item.result r form c.deref-item-items.ensures.value (omega arith) c.item-item.is in
    let m = entry_at _ _ _ _ here.0 _ _ _ c.in-Some-pair_in.ensures.found here.1 in
    (rw c.deref-in-loop-i-2.ensures at c.in_err-second-in-Map.ensures) names.1 m.1 m.4)

pub read-returns-in_err-entry-in-Map : goal.read-returns-in_err-entry-in-Map
read-returns-in_err-entry-in-Map t c = let back = c.from_residual-in_err-entry-in-Map in rw (is_err back.result _ back.ensures.1) (λ names u r. c.in_err-entry-in-Map.ensures)

pub read-returns-in_err-push-in-Map : goal.read-returns-in_err-push-in-Map
read-returns-in_err-push-in-Map t c =
    let back = c.from_residual-in_err-push-in-Map in
    rw (is_err back.result _ back.ensures.1) (λ names u r. c.in_err-push-in-Map.ensures.only_out_of_memory)

pub read-loop-i-preserved : goal.read-loop-i-preserved
read-loop-i-preserved t c =
    let l = c.loop-i in
    let xs = c.deref-item-items.result.now in
    let j = c.item-item.result in
    let k = c.in-Map.key.value in
    let v = c.in-Map.value.value in
    let R = IsOnly (HasDistinctNames (layout_of k) × HasDistinctNames (layout_of v)) (IsEntryReading (type_of k) (layout_of k) (type_of v) (layout_of v)) in
    let both = entry_only (type_of k) (layout_of k) (type_of v) (layout_of v) (tree c.in_ok-first-in-Map.first) (tree c.in_ok-second-in-Map.second) (view j) _ _ c.in-Some-pair_in.ensures.found
    (rw c.deref-in-loop-i.ensures at c.in_ok-first-in-Map.ensures) (rw c.deref-in-loop-i-2.ensures at c.in_ok-second-in-Map.ensures) in
    let next : take (l.i + 1) xs ≡ take l.i xs ++ j ∷ [] = take_more xs l.i j (omega arith) ∙ ap (λ z. take l.i xs ++ z ∷ []) (sym c.item-item.is) in
    rw (c.in_ok-push-in-Map.ensures.added, next) (items_more R l.entries.items (take l.i xs) c.in_ok-entry-in-Map.entry j l.invariant (subst (λ w. R w (view j)) (sym c.in_ok-entry-in-Map.ensures) both))

pub read-returns-after-loop-i : goal.read-returns-after-loop-i
read-returns-after-loop-i t c =
    let l = c.loop-i in
    let d = view c.args.json.now in
    let xs = c.deref-item-items.result.now in
    let k = c.in-Map.key in
    let v = c.in-Map.value in
    let D = HasDistinctNames (layout_of k.value) × HasDistinctNames (layout_of v.value) in
    let E = IsEntryJson (IsJsonOf (layout_of k.value)) (IsJsonOf (layout_of v.value)) in
    let R = IsEntryReading (type_of k.value) (layout_of k.value) (type_of v.value) (layout_of v.value) in
    let ts = trees (map tree l.entries.items) in
    let ds = items_view c.in-Some.items.now.items in
    let seen : tree (Seq l.entries) ≡ nodes.Seq ts = search (rules, the_lemmas) in
    let form : d ≡ values.array ds = array_is d ds (rw c.in-Some.is at c.as_array.ensures) in
    let few : count ts < 2 ^ 64 = omega (arith, l.entries.small, elements_count tree l.entries.items) in
    let whole : take l.i xs ≡ c.in-Some.items.now.items = take_all l.i xs (omega arith) ∙ c.deref-item-items.ensures.value in
    let all = items_only D R ts ds (subst (λ ys. AreItems (IsOnly D R) ts (items_view ys)) whole l.invariant) in
    rw (c.in-Map.is, type_of_map k v, layout_of_map k v, seen, form) (list_only (reads (entry_of (type_of k.value) (type_of v.value))) E D ts ds few all)

pub read_half-returns-in-Err : goal.read_half-returns-in-Err
read_half-returns-in-Err t c = λ names u r. c.within.ensures.memory (c.in-Err.ensures names u r)

-- ---- tuples

pub read_tuple-returns-then-is_empty : goal.read_tuple-returns-then-is_empty
read_tuple-returns-then-is_empty t c =
    let ss = c.args.parts.now.items in
    let size : vec_len c.args.parts.now ≡ length ss = grind (arith, common_steps) in
    let none = none_left ss (ap (λ n. n == 0) (sym size) ∙ sym c.is_empty.ensures ∙ c.if-is_empty.true) in
    subst (λ zs. Reads (types.group (types_of zs)) (layouts.tuple (layouts_of zs)) (view c.args.json.now) c.read_unit.result) (sym none) c.read_unit.ensures

pub read_tuple-returns-in_default : goal.read_tuple-returns-in_default
read_tuple-returns-in_default t c =
    let ss = c.args.parts.now.items in
    let size : vec_len c.args.parts.now ≡ length ss = grind (arith, common_steps) in
    let full : length ss ≡ 0 → ⊥ = λ e. true≢false (sym (ap (λ n. n == 0) e) ∙ ap (λ n. n == 0) (sym size) ∙ sym c.is_empty.ensures ∙ c.if-is_empty.false) in
    λ names u r.
    let k = tuple_form ss u (view c.args.json.now) full r in
    absurd (c.in_default.ensures.none k.items k.form (k.long ∙ sym size ∙ sym c.len.ensures))

pub read_tuple-returns-in_err-values : goal.read_tuple-returns-in_err-values
read_tuple-returns-in_err-values t c =
    let ss = c.args.parts.now.items in
    let size : vec_len c.args.parts.now ≡ length ss = grind (arith, common_steps) in
    let full : length ss ≡ 0 → ⊥ = λ e. true≢false (sym (ap (λ n. n == 0) e) ∙ ap (λ n. n == 0) (sym size) ∙ sym c.is_empty.ensures ∙ c.if-is_empty.false) in
    rw (is_err c.from_residual.result _ c.from_residual.ensures.1) (λ names u r.
    let k = tuple_form ss u (view c.args.json.now) full r in
    let same = same_items (items_view c.in-Some.items.now.items) k.items (sym c.in-Some.ensures.found.0 ∙ k.form) in
    c.in_err-values.ensures names k.parts (subst (ArePartsReading (types_of ss) (layouts_of ss) k.parts) same k.read))

pub read_tuple-returns : goal.read_tuple-returns
read_tuple-returns t c =
    let ss = c.args.parts.now.items in
    let v = c.in_ok-values.values in
    let ts = trees (map tree v.items) in
    let seen : tree (Group v) ≡ nodes.Group ts = search (rules, the_lemmas) in
    let size : vec_len c.args.parts.now ≡ length ss = grind (arith, common_steps) in
    let full : length ss ≡ 0 → ⊥ = λ e. true≢false (sym (ap (λ n. n == 0) e) ∙ ap (λ n. n == 0) (sym size) ∙ sym c.is_empty.ensures ∙ c.if-is_empty.false) in
    rw (seen, c.in-Some.ensures.found.0) (tuple_only ss ts (items_view c.in-Some.items.now.items) full c.in_ok-values.ensures)

pub read_parts-loop-i-init : goal.read_parts-loop-i-init
read_parts-loop-i-init t c = rw c.new-values.ensures.items tt

pub read_parts-returns-in_err-value : goal.read_parts-returns-in_err-value
read_parts-returns-in_err-value t c =
    let ss = c.args.parts.now.items in
    let js = c.args.items.now.items in
    let i = c.loop-i.i in
    let s = c.part-item.result in
    let j = c.index.result.now in
    let whole = c.deref-part-items.ensures.value in
    let inside : i < length c.deref-part-items.result.now = omega arith in
    let low : i < length ss = rw whole at inside in
    let here : s ≡ get_or ss i s = rw whole at c.part-item.is in
    let there : j ≡ get_or js i j = grind (arith, common_steps) in
    rw (is_err c.from_residual.result _ c.from_residual.ensures.1) (λ names us r.
    let k = part_at ss us js i s j r low here there in
    c.in_err-value.ensures (distinct_at ss i s low here names) k.0 k.1)

pub read_parts-returns-in_err-push : goal.read_parts-returns-in_err-push
read_parts-returns-in_err-push t c =
    rw (is_err c.from_residual-in_err-push.result _ c.from_residual-in_err-push.ensures.1) (λ names u r. c.in_err-push.ensures.only_out_of_memory)

pub read_parts-loop-i-preserved : goal.read_parts-loop-i-preserved
read_parts-loop-i-preserved t c =
    let l = c.loop-i in
    let xs = c.deref-part-items.result.now in
    let js = c.args.items.now.items in
    let s = c.part-item.result in
    let j = c.index.result.now in
    let there : j ≡ get_or js l.i j = grind (arith, common_steps) in
    let long : l.i < length js = grind (arith, common_steps) in
    let next : take (l.i + 1) xs ≡ take l.i xs ++ s ∷ [] = take_more xs l.i s (omega arith) ∙ ap (λ z. take l.i xs ++ z ∷ []) (sym c.part-item.is) in
    let then_next : take (l.i + 1) js ≡ take l.i js ++ j ∷ [] = take_more js l.i j long ∙ ap (λ z. take l.i js ++ z ∷ []) (sym there) in
    rw (c.in_ok-push.ensures.added, next, then_next) (parts_more (take l.i xs) l.values.items (take l.i js) s c.in_ok-value.value j l.invariant c.in_ok-value.ensures)

pub read_parts-returns : goal.read_parts-returns
read_parts-returns t c =
    let l = c.loop-i in
    let xs = c.deref-part-items.result.now in
    let js = c.args.items.now.items in
    let whole : take l.i xs ≡ c.args.parts.now.items = take_all l.i xs (omega arith) ∙ c.deref-part-items.ensures.value in
    let all : take l.i js ≡ js = take_all l.i js (grind (arith, common_steps)) in
    parts_only c.args.parts.now.items l.values.items js (rw (whole, all) at l.invariant)

-- ---- structs

pub read_struct-returns-then-not-has_members : goal.read_struct-returns-then-not-has_members
read_struct-returns-then-not-has_members t c =
    let ns = c.args.fields.now.items in
    let size : vec_len c.args.fields.now ≡ length ns = grind (arith, common_steps) in
    λ names u r.
    let k = struct_form ns u (view c.args.json.now) r in
    absurd (c.has_members.ensures.other c.if-not-has_members.true (rw (c.len.ensures, size) k.2))

pub read_struct-returns-in_err-values : goal.read_struct-returns-in_err-values
read_struct-returns-in_err-values t c =
    rw (is_err c.from_residual.result _ c.from_residual.ensures.1) (λ names u r.
    let k = struct_form c.args.fields.now.items u (view c.args.json.now) r in c.in_err-values.ensures names k.0 k.3)

pub read_struct-returns : goal.read_struct-returns
read_struct-returns t c =
    let ns = c.args.fields.now.items in
    let d = view c.args.json.now in
    let v = c.in_ok-values.values in
    let ts = trees (map tree v.items) in
    let seen : tree (Group v) ≡ nodes.Group ts = search (rules, the_lemmas) in
    let size : vec_len c.args.fields.now ≡ length ns = grind (arith, common_steps) in
    rw seen (struct_only ns ts d (rw (c.len.ensures, size) at (c.has_members.ensures.long c.if-not-has_members.false)) c.in_ok-values.ensures)

pub read_fields-loop-field-init : goal.read_fields-loop-field-init
read_fields-loop-field-init t c = rw c.new-values.ensures.items tt

pub read_fields-returns-in_err-value : goal.read_fields-returns-in_err-value
read_fields-returns-in_err-value t c =
    let ns = c.args.fields.now.items in
    let i = c.loop-field.field-index in
    let n = c.field-item.result in
    let whole = c.deref-field-items.ensures.value in
    let low : i < length ns = rw whole at c.loop-field-test.true in
    let here : n ≡ get_or ns i n = rw whole at c.field-item.is in
    rw (is_err c.from_residual.result _ c.from_residual.ensures.1) (λ names us r.
    let k = field_at ns us (view c.args.json.now) i n r low here in
    (rw c.deref.ensures at c.in_err-value.ensures) (named_at ns i n low here names).1 k.0 k.1)

pub read_fields-returns-in_err-push : goal.read_fields-returns-in_err-push
read_fields-returns-in_err-push t c =
    rw (is_err c.from_residual-in_err-push.result _ c.from_residual-in_err-push.ensures.1) (λ names u r. c.in_err-push.ensures.only_out_of_memory)

pub read_fields-loop-field-preserved : goal.read_fields-loop-field-preserved
read_fields-loop-field-preserved t c =
    let l = c.loop-field in
    let xs = c.deref-field-items.result.now in
    let n = c.field-item.result in
    let next : take (l.field-index + 1) xs ≡ take l.field-index xs ++ n ∷ [] = take_more xs l.field-index n (omega arith) ∙ ap (λ z. take l.field-index xs ++ z ∷ []) (sym c.field-item.is) in
    rw (c.in_ok-push.ensures.added, next) (fields_more (take l.field-index xs) l.values.items n c.in_ok-value.value (view c.args.json.now) l.invariant (rw c.deref.ensures at c.in_ok-value.ensures))

pub read_fields-returns : goal.read_fields-returns
read_fields-returns t c =
    let l = c.loop-field in
    let xs = c.deref-field-items.result.now in
    let whole : take l.field-index xs ≡ c.args.fields.now.items = take_all l.field-index xs (omega arith) ∙ c.deref-field-items.ensures.value in
    fields_only c.args.fields.now.items l.values.items (view c.args.json.now) (rw whole at l.invariant)

pub read_field-returns-in-Some : goal.read_field-returns-in-Some
read_field-returns-in-Some t c =
    let d = view c.args.json.now in
    let m = type_of c.args.content.now in
    let x = layout_of c.args.content.now in
    let name = c.args.name.now in
    let e = view c.in-Some.found.now in
    let R = IsReading m x in
    let found : get name d ≡ Some e = rw c.in-Some.is at (sym c.get.ensures) in
    answer_by (HasDistinctNames x) (HasDistinctNames x) tree R (IsMemberReading name m x) e d c.read_part.result (λ f. f) (λ u h. (e, found, h)) (λ u h. member_from name R d e u found h) c.read_part.ensures

pub read_field-returns-in-None : goal.read_field-returns-in-None
read_field-returns-in-None t c =
    let none : get c.args.name.now (view c.args.json.now) ≡ None = rw c.in-None.is at (sym c.get.ensures) in
    λ names u r. cc (sym none ∙ r.1)

-- ---- variants

pub read_variant-returns-in_default : goal.read_variant-returns-in_default
read_variant-returns-in_default t c =
    let ns = c.args.variants.now.items in
    let d = view c.args.json.now in
    let i = c.index_of-index.result in
    λ names u r.
    let f = variant_form ns u d r in
    let at = one_index ns i u d names.0 c.index_of-index.ensures.found c.index_of-index.ensures.first f in
    let low : i < length ns = subst (λ j. j < length ns) (sym at) f.low in
    let far : i < length c.deref.result.now = rw c.deref.ensures.value low in
    absurd (true≢false (sym ((Decides-ltb i (length c.deref.result.now)).1 far) ∙ sym c.get.ensures.lookup.0 ∙ ap is_some c.in_default.is))

pub read_variant-returns-in_default-try_from : goal.read_variant-returns-in_default-try_from
read_variant-returns-in_default-try_from t c =
    let ns = c.args.variants.now.items in
    let d = view c.args.json.now in
    λ names u r.
    let f = variant_form ns u d r in
    let at = one_index ns c.index_of-index.result u d names.0 c.index_of-index.ensures.found c.index_of-index.ensures.first f in
    absurd (c.in_default-try_from.ensures (subst (λ j. j < 4294967296) (sym at) f.small))

pub read_variant-returns-in_err-content : goal.read_variant-returns-in_err-content
read_variant-returns-in_err-content t c =
    let ns = c.args.variants.now.items in
    let d = view c.args.json.now in
    let i = c.index_of-index.result in
    let n = c.in-Some.variant.now in
    let inside : i < length c.deref.result.now = grind (arith, common_steps) in
    let low : i < length ns = rw c.deref.ensures.value at inside in
    let here : n ≡ get_or ns i n = rw c.deref.ensures.value at c.in-Some.ensures.lookup.1 in
    rw (is_err c.from_residual.result _ c.from_residual.ensures.1) (λ names u r.
    let f = variant_form ns u d r in
    let at = one_index ns i u d names.0 c.index_of-index.ensures.found c.index_of-index.ensures.first f in
    (rw c.deref-2.ensures at c.in_err-content.ensures) (named_at ns i n low here names.1).1 f.content (variant_by ns i n u d low here f at))

pub read_variant-returns-in-Ok-new : goal.read_variant-returns-in-Ok-new
read_variant-returns-in-Ok-new t c =
    let ns = c.args.variants.now.items in
    let d = view c.args.json.now in
    let i = c.index_of-index.result in
    let n = c.in-Some.variant.now in
    let v = c.in_ok-content.content in
    let inside : i < length c.deref.result.now = grind (arith, common_steps) in
    let low : i < length ns = rw c.deref.ensures.value at inside in
    let here : n ≡ get_or ns i n = rw c.deref.ensures.value at c.in-Some.ensures.lookup.1 in
    let same : c.in-Ok.index ≡ i = grind (arith, common_steps) in
    let few : c.in-Ok.index < 2 ^ 32 = grind (arith, common_steps) in
    let held : c.in-Ok-new.held.value ≡ v = c.in-Ok-new.ensures.ok in
    let seen : tree (Variant c.in-Ok.index c.in-Ok-new.held) ≡ nodes.Variant c.in-Ok.index (tree v) = rw (← held) (search (rules, the_lemmas)) in
    rw (seen, same) (variant_only ns i n (tree v) d (rw same at few) low here c.index_of-index.ensures.found c.index_of-index.ensures.first (rw c.deref-2.ensures at c.in_ok-content.ensures))

pub read_content-returns-then-is_text : goal.read_content-returns-then-is_text
read_content-returns-then-is_text t c =
    let x = layout_of c.args.content.now in
    let v = c.new.result in
    let unit = sym c.is_unit.ensures.empty ∙ c.if-is_unit.true in
    let seen : tree (Group v) ≡ nodes.Group (trees (map tree v.items)) = search (rules, the_lemmas) in
    let none : tree (Group v) ≡ nodes.Group nodes.NoTrees = seen ∙ ap (λ vs. nodes.Group (trees (map tree vs))) c.new.ensures.items in
    rw none (unit_only c.args.name.now (type_of c.args.content.now) x (view c.args.json.now) unit (c.is_unit.ensures.unit c.if-is_unit.true) (c.is_text.ensures.same c.if-is_text.true))

pub read_content-returns-then-is_unit : goal.read_content-returns-then-is_unit
read_content-returns-then-is_unit t c =
    let x = layout_of c.args.content.now in
    let unit = sym c.is_unit.ensures.empty ∙ c.if-is_unit.true in
    λ names u r. absurd (c.is_text.ensures.other c.if-is_text.false (unit_content c.args.name.now x (IsJsonOf x) u (view c.args.json.now) unit r.1).1)

pub read_content-returns-in_default : goal.read_content-returns-in_default
read_content-returns-in_default t c =
    let x = layout_of c.args.content.now in
    let full = sym c.is_unit.ensures.empty ∙ c.if-is_unit.false in
    λ names u r. let k = other_content c.args.name.now x (IsJsonOf x) u (view c.args.json.now) full r.1 in absurd (c.in_default.ensures.none k.0 k.1)

pub read_content-returns : goal.read_content-returns
read_content-returns t c =
    let name = c.args.name.now in
    let m = type_of c.args.content.now in
    let x = layout_of c.args.content.now in
    let d = view c.args.json.now in
    let e = view c.in-Some.found.now in
    let full = sym c.is_unit.ensures.empty ∙ c.if-is_unit.false in
    let form = c.in-Some.ensures.found in
    answer_by (HasDistinctNames x) (HasDistinctNames x) tree (IsReading m x) (IsContentReading name m x) e d c.read_part.result (λ f. f) (λ u h. content_to name m x u d e full form h) (λ u h. content_from name m x u d e full form h) c.read_part.ensures
