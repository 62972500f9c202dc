-- The mutually recursive writers of JSON, by the kind of the schema. The JSON of a whole is made of that of its parts in order.
use Rattle.std.proofs.Common.{◌≡◌, ◌<◌, true, false, [], ◌∷◌, map, length, vec_len, get_or, string_bytes, Some, is_some, nat_cmp, sym, ap, ◌∙◌, add-one, arith, rules}
use Rattle.std.specs.Bool.{◌==◌}
use Rattle.std.specs.BTreeMap.{is_at}
use Rattle.std.specs.Cmp.Lexicographic.{slice_cmp}
use Rattle.std.specs.Map.{lookup}
use Rattle.std.proofs.lemmas.Grind.{common_steps}
use Rattle.std.proofs.lemmas.List.{map-append}
use Rattle.postcard_wire.specs.Tree.{trees}
use Rattle.postcard_wire.specs.Tree as nodes
use Rattle.postcard_value.specs.Tree.{tree}
use Rattle.postcard_value.specs.declared.value.Value as values
use Rattle.postcard_value_text.specs.Layout.{layout_of}
use Rattle.postcard_value_text.proofs.Layouts.{layout_of_map, layout_of_struct, layout_of_enum}
use Rattle.serde_json.specs.Data.{put, no_members, null}
use Rattle.serde_json.specs.Find.{get_member}
use Rattle.serde_json.specs.View.{view, members_view}
use Rattle.serde_json.specs.declared.value.Value as json
use Rattle.serde_json.proofs.Views.{view-Array, view-Object, view-lookup}
use Rattle.postcard_value_json.specs.Written.{json_of, entry_json, variant_json, add_member}
use Rattle.postcard_value_json.proofs.Rows.{list_more, list_whole, entry_whole, each_more, members_more, parts_whole, fields_whole, writer_of, field_writer, variant_at, row_full, row_none, not_there, still_some}
use Rattle.postcard_value_json.proofs.write.+write.Goals as goal

pub write-returns-in-Map-Seq : goal.write-returns-in-Map-Seq
write-returns-in-Map-Seq t c =
    let w = c.in-Map-Seq.items in
    let seen : tree (values.Seq w) ≡ nodes.Seq (trees (map tree w.items)) = search (rules, values.the_lemmas) in
    rw (c.in-Map-Seq.is-0, c.in-Map-Seq.is-1, layout_of_map c.in-Map-Seq.key c.in-Map-Seq.content, seen)
    (rw (c.deref-in-Map-Seq.ensures, c.deref-in-Map-Seq-2.ensures) at c.write_map.ensures)

pub write-returns-in-Struct-Group : goal.write-returns-in-Struct-Group
write-returns-in-Struct-Group t c =
    let v = c.in-Struct-Group.fields in
    let w = c.in-Struct-Group.items in
    let seen : tree (values.Group w) ≡ nodes.Group (trees (map tree w.items)) = search (rules, values.the_lemmas) in
    rw (c.in-Struct-Group.is-0, c.in-Struct-Group.is-1, layout_of_struct v, seen) c.write_struct.ensures

pub write-returns-in-Some : goal.write-returns-in-Some
write-returns-in-Some t c =
    let v = c.in-Enum-Variant.variants in
    let b = c.in-Enum-Variant.content in
    let i = c.in-Enum-Variant.index in
    let xs = c.deref-in-Enum-Variant.result.now in
    let n = c.in-Some.variant.now in
    let low : i < length xs = grind (arith, common_steps) in
    let here = variant_at xs i n low c.in-Some.ensures.lookup.1 in
    let seen : tree (values.Variant i b) ≡ nodes.Variant i (tree b.value) = search (rules, values.the_lemmas) in
    let whole : json_of (layout_of c.args.schema.now) (tree c.args.value.now) ≡ variant_json (string_bytes n.name) (layout_of n.content) (json_of (layout_of n.content)) (tree c.deref-in-Some.result.now) =
    rw (c.in-Enum-Variant.is-0, c.in-Enum-Variant.is-1, layout_of_enum v, seen, c.deref-in-Some.ensures) (ap (λ p. p (tree b.value)) (rw c.deref-in-Enum-Variant.ensures.value at here)) in
    rw whole c.write_variant.ensures

pub write_list-loop-item-preserved : goal.write_list-loop-item-preserved
write_list-loop-item-preserved t c =
    let l = c.loop-item in
    let xs = c.deref-item-items.result.now in
    let low : l.item-index < length xs = omega arith in
    rw c.in_ok-push.ensures.items
    (list_more (json_of (layout_of c.args.element.now)) xs l.item-index c.item-item.result l.all.items c.in-Some.json low c.item-item.is l.invariant (rw c.in-Some.is at c.in_ok-json.ensures))

pub write_list-returns : goal.write_list-returns
write_list-returns t c =
    let l = c.loop-item in
    let items = c.deref-item-items in
    list_whole (json_of (layout_of c.args.element.now)) items.result.now c.args.items.now.items l.item-index l.all (omega arith) items.ensures.value l.invariant

pub write_map-loop-item-preserved : goal.write_map-loop-item-preserved
write_map-loop-item-preserved t c =
    let l = c.loop-item in
    let xs = c.deref-item-items.result.now in
    let low : l.item-index < length xs = omega arith in
    rw c.in_ok-push.ensures.items
    (list_more (entry_json (json_of (layout_of c.args.key.now)) (json_of (layout_of c.args.content.now))) xs l.item-index c.item-item.result l.all.items c.in-Some.json low c.item-item.is l.invariant (rw c.in-Some.is at c.in_ok-json.ensures))

pub write_map-returns : goal.write_map-returns
write_map-returns t c =
    let l = c.loop-item in
    let items = c.deref-item-items in
    let entry = entry_json (json_of (layout_of c.args.key.now)) (json_of (layout_of c.args.content.now)) in
    list_whole entry items.result.now c.args.items.now.items l.item-index l.all (omega arith) items.ensures.value l.invariant

pub write_entry-returns : goal.write_entry-returns
write_entry-returns t c =
    let w = c.in-Group.pair in
    let u = c.index.result.now in
    let v = c.index-2.result.now in
    let seen : tree (values.Group w) ≡ nodes.Group (trees (map tree w.items)) = search (rules, values.the_lemmas) in
    let two : length w.items ≡ 2 = grind (arith, common_steps) in
    let first : u ≡ get_or w.items 0 u = grind (arith, common_steps) in
    let second : v ≡ get_or w.items 1 v = grind (arith, common_steps) in
    rw (c.in-Group.is, seen)
    (entry_whole (json_of (layout_of c.args.key.now)) (json_of (layout_of c.args.content.now)) w.items u v c.in-Some.first c.in-Some-2.second c.in_ok-both.both two first second
    (rw c.in-Some.is at c.in_ok-first.ensures) (rw c.in-Some-2.is at c.in_ok-second.ensures) c.in_ok-both.ensures.items)

pub write_tuple-loop-i-preserved : goal.write_tuple-loop-i-preserved
write_tuple-loop-i-preserved t c =
    let l = c.loop-i in
    let ss = c.args.parts.now.items in
    let xs = c.deref-item-items.result.now in
    let x = c.item-item.result in
    let s = c.in-Some.part.now in
    let j = c.in-Some-2.json in
    let low : l.i < length xs = omega arith in
    let inside : l.i < length c.deref.result.now = grind (arith, common_steps) in
    let few : l.i < length ss = rw c.deref.ensures.value at inside in
    let found : writer_of s (tree x) ≡ Some (view j) = sym (rw c.in-Some-2.is at c.in_ok-json.ensures) in
    let more = each_more writer_of tree ss xs l.i s x (map view l.all.items) (view j) few low (rw c.deref.ensures.value at c.in-Some.ensures.lookup.1) c.item-item.is l.invariant found in
    rw (c.in_ok-push.ensures.items, add-one l.i) (more ∙ ap Some (sym (map-append view l.all.items (j ∷ []))))

pub write_tuple-returns-then-is_empty : goal.write_tuple-returns-then-is_empty
write_tuple-returns-then-is_empty t c =
    let l = c.loop-i in
    let ss = c.args.parts.now.items in
    let xs = c.deref-item-items.result.now in
    let long : length ss ≡ length xs = grind (arith, common_steps) in
    let all = parts_whole ss xs c.args.items.now.items l.i (map view l.all.items) (omega (arith, long)) (omega arith) c.deref-item-items.ensures.value l.invariant in
    let n : vec_len l.all ≡ length l.all.items = grind (arith, common_steps) in
    let none : (length l.all.items == 0) ≡ true = ap (λ k. k == 0) (sym n) ∙ sym c.is_empty.ensures ∙ c.if-is_empty.true in
    let seen : view json.Null ≡ null = search (rules, json.the_lemmas) in
    ap Some (seen ∙ sym (row_none l.all.items none)) ∙ sym all

pub write_tuple-returns : goal.write_tuple-returns
write_tuple-returns t c =
    let l = c.loop-i in
    let ss = c.args.parts.now.items in
    let xs = c.deref-item-items.result.now in
    let long : length ss ≡ length xs = grind (arith, common_steps) in
    let all = parts_whole ss xs c.args.items.now.items l.i (map view l.all.items) (omega (arith, long)) (omega arith) c.deref-item-items.ensures.value l.invariant in
    let n : vec_len l.all ≡ length l.all.items = grind (arith, common_steps) in
    let full : (length l.all.items == 0) ≡ false = ap (λ k. k == 0) (sym n) ∙ sym c.is_empty.ensures ∙ c.if-is_empty.false in
    ap Some (view-Array l.all ∙ sym (row_full l.all.items full)) ∙ sym all

pub write_struct-loop-i-preserved : goal.write_struct-loop-i-preserved
write_struct-loop-i-preserved t c =
    let l = c.loop-i in
    let ns = c.args.fields.now.items in
    let xs = c.deref-item-items.result.now in
    let x = c.item-item.result in
    let n = c.in-Some.field.now in
    let j = c.in-Some-2.json in
    let done = members_view l.members.entries in
    let low : l.i < length xs = omega arith in
    let inside : l.i < length c.deref.result.now = grind (arith, common_steps) in
    let few : l.i < length ns = rw c.deref.ensures.value at inside in
    let found : (field_writer n).1 (tree x) ≡ Some (view j) = sym (rw c.in-Some-2.is at c.in_ok-json.ensures) in
    let none : is_some (get_member (string_bytes n.name) done) ≡ false =
    ap is_some (sym (view-lookup (string_bytes n.name) l.members.entries)) ∙ still_some view (lookup (is_at (λ k. slice_cmp nat_cmp (string_bytes n.name) (string_bytes k))) l.members.entries) ∙ sym (rw c.as_str.ensures.value at c.contains_key.ensures) ∙ c.if-contains_key.false in
    let added : add_member (string_bytes n.name) (view j) done ≡ Some (put (string_bytes n.name) (view j) done) = not_there (string_bytes n.name) (view j) done none in
    let more = members_more field_writer tree ns xs l.i n x no_members done (put (string_bytes n.name) (view j) done) (view j) few low (rw c.deref.ensures.value at c.in-Some.ensures.lookup.1) c.item-item.is l.invariant found added in
    rw (add-one l.i) (more ∙ ap Some (ap (λ k. put k (view j) done) (sym c.deref-in-loop-i.ensures) ∙ sym c.in_ok-put.ensures.ok))

pub write_struct-returns : goal.write_struct-returns
write_struct-returns t c =
    let l = c.loop-i in
    let ns = c.args.fields.now.items in
    let xs = c.deref-item-items.result.now in
    let long : length ns ≡ length xs = grind (arith, common_steps) in
    let done = members_view l.members.entries in
    ap Some (view-Object l.members) ∙ sym (fields_whole ns xs c.args.items.now.items l.i done (omega (arith, long)) (omega arith) c.deref-item-items.ensures.value l.invariant)
