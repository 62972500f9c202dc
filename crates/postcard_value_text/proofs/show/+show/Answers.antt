-- The mutually recursive printers of values, by the kind of the schema. The text of a whole is that of its parts in order, with the signs
-- between them.
use Rattle.std.proofs.Common.{◌≡◌, ◌+◌, ◌<◌, ◌++◌, false, true, [], ◌∷◌, map, take, length, get_or, string_bytes, refl, sym, ap, ◌∙◌, arith, rules, Some}
use Rattle.std.proofs.lemmas.Grind.{common_steps}
use Rattle.std.proofs.Output.{displays_on_ok_of_eq}
use Rattle.std.specs.Fmt.{◌++?◌}
use Rattle.postcard_wire.specs.Tree as nodes
use Rattle.postcard_value.specs.declared.value.Value as values
use Rattle.postcard_value_text.specs.{fields_of, has_brackets, is_unit, layout_of, layouts_of, tree, trees}
use Rattle.postcard_value_text.specs.Shown.{text, texts, field_texts, field_text, entry_text, variant_text, enclosed, joined, all_by, each_by, lead}
use Rattle.postcard_value_text.proofs.Joined.{items_more, item_more, parts_begin, then_more, two_then, one_then, encloses}
use Rattle.postcard_value_text.proofs.Layouts.{tuple_more, struct_more, variant_at, content_brackets, content_other, pair_trees, layout_of_map, layout_of_struct, layout_of_enum}
use Rattle.postcard_value_text.proofs.show.+show.Goals as goal

pub show-returns-in-Map-Seq : goal.show-returns-in-Map-Seq
show-returns-in-Map-Seq g t c =
    let w = c.in-Map-Seq.items in
    let seen : tree (values.Seq w) ≡ nodes.Seq (trees (map tree w.items)) = search (rules, values.the_lemmas) in
    rw (c.in-Map-Seq.is-0, c.in-Map-Seq.is-1, layout_of_map c.in-Map-Seq.key c.in-Map-Seq.content, seen)
    (rw (c.deref-in-Map-Seq.ensures, c.deref-in-Map-Seq-2.ensures) at c.show_map.ensures)

pub show-returns-in-Struct-Group : goal.show-returns-in-Struct-Group
show-returns-in-Struct-Group g t c =
    let v = c.in-Struct-Group.fields in
    let w = c.in-Struct-Group.items in
    let seen : tree (values.Group w) ≡ nodes.Group (trees (map tree w.items)) = search (rules, values.the_lemmas) in
    rw (c.in-Struct-Group.is-0, c.in-Struct-Group.is-1, layout_of_struct v, seen) c.show_struct.ensures

pub show-returns-in-Some : goal.show-returns-in-Some
show-returns-in-Some g t c =
    let v = c.in-Enum-Variant.variants in
    let b = c.in-Enum-Variant.content in
    let i = c.in-Enum-Variant.index in
    let xs = c.deref-in-Enum-Variant.result.now in
    let n = c.in-Some.variant.now in
    let low : i < length xs = grind (arith, common_steps) in
    let here = variant_at xs i n low c.in-Some.ensures.lookup.1 in
    let seen : tree (values.Variant i b) ≡ nodes.Variant i (tree b.value) = search (rules, values.the_lemmas) in
    let whole : text (layout_of c.args.schema.now) (tree c.args.value.now) ≡ variant_text (string_bytes n.name) (layout_of n.content) (text (layout_of n.content)) (tree c.deref-in-Some.result.now) =
    rw (c.in-Enum-Variant.is-0, c.in-Enum-Variant.is-1, layout_of_enum v, seen, c.deref-in-Some.ensures) (ap (λ p. p (tree b.value)) (rw c.deref-in-Enum-Variant.ensures.value at here)) in
    displays_on_ok_of_eq g.W.Write.write_str_gives _ _ _ _ _ (sym whole) c.show_variant.ensures

pub show_list-loop-i-preserved : goal.show_list-loop-i-preserved
show_list-loop-i-preserved g t c =
    let p = text (layout_of c.args.element.now) in
    let xs = c.deref-item-items.result.now in
    let i = c.loop-i.i in
    let x = c.item-item.result in
    let low : i < length xs = omega arith in
    item_more g.W.Write.write_str_gives c.args.f.now c.loop-i.f c.separate.new.f c.show.new.f (91 ∷ []) (lead i (44 ∷ 32 ∷ []))
    (joined (44 ∷ 32 ∷ []) (all_by p (trees (map tree (take i xs))))) (p (tree x)) (joined (44 ∷ 32 ∷ []) (all_by p (trees (map tree (take (i + 1) xs)))))
    (items_more (44 ∷ 32 ∷ []) tree p xs i x low c.item-item.is) c.loop-i.invariant c.in_ok-separate.ensures c.in_ok-show.ensures

pub show_map-loop-i-preserved : goal.show_map-loop-i-preserved
show_map-loop-i-preserved g t c =
    let p = entry_text (text (layout_of c.args.key.now)) (text (layout_of c.args.content.now)) in
    let xs = c.deref-item-items.result.now in
    let i = c.loop-i.i in
    let x = c.item-item.result in
    let low : i < length xs = omega arith in
    item_more g.W.Write.write_str_gives c.args.f.now c.loop-i.f c.separate.new.f c.show_entry.new.f (123 ∷ []) (lead i (44 ∷ 32 ∷ []))
    (joined (44 ∷ 32 ∷ []) (all_by p (trees (map tree (take i xs))))) (p (tree x)) (joined (44 ∷ 32 ∷ []) (all_by p (trees (map tree (take (i + 1) xs)))))
    (items_more (44 ∷ 32 ∷ []) tree p xs i x low c.item-item.is) c.loop-i.invariant c.in_ok-separate.ensures c.in_ok-show_entry.ensures

pub show_tuple-loop-i-preserved : goal.show_tuple-loop-i-preserved
show_tuple-loop-i-preserved g t c =
    let ss = c.args.parts.now.items in
    let ps = texts (layouts_of ss) in
    let xs = c.deref-item-items.result.now in
    let i = c.loop-i.i in
    let x = c.item-item.result in
    let s = c.in-Some.part.now in
    let low : i < length xs = omega arith in
    let inside : i < length c.deref.result.now = grind (arith, common_steps) in
    let few : i < length ss = rw c.deref.ensures.value at inside in
    item_more g.W.Write.write_str_gives c.args.f.now c.loop-i.f c.separate.new.f c.show.new.f (40 ∷ []) (lead i (44 ∷ 32 ∷ []))
    (joined (44 ∷ 32 ∷ []) (each_by ps (trees (map tree (take i xs))))) (text (layout_of s) (tree x)) (joined (44 ∷ 32 ∷ []) (each_by ps (trees (map tree (take (i + 1) xs)))))
    (tuple_more (44 ∷ 32 ∷ []) tree ss xs i s x few low (rw c.deref.ensures.value at c.in-Some.ensures.lookup.1) c.item-item.is) c.loop-i.invariant c.in_ok-separate.ensures c.in_ok-show-in-Some.ensures

pub show_struct-loop-i-preserved : goal.show_struct-loop-i-preserved
show_struct-loop-i-preserved g t c =
    let ns = c.args.fields.now.items in
    let ps = field_texts (fields_of ns) in
    let xs = c.deref-item-items.result.now in
    let i = c.loop-i.i in
    let x = c.item-item.result in
    let n = c.in-Some.field.now in
    let low : i < length xs = omega arith in
    let inside : i < length c.deref.result.now = grind (arith, common_steps) in
    let few : i < length ns = rw c.deref.ensures.value at inside in
    item_more g.W.Write.write_str_gives c.args.f.now c.loop-i.f c.separate.new.f c.show_field.new.f (123 ∷ []) (lead i (44 ∷ 32 ∷ []))
    (joined (44 ∷ 32 ∷ []) (each_by ps (trees (map tree (take i xs))))) (field_text (string_bytes n.name) (text (layout_of n.content)) (tree x)) (joined (44 ∷ 32 ∷ []) (each_by ps (trees (map tree (take (i + 1) xs)))))
    (struct_more (44 ∷ 32 ∷ []) tree ns xs i n x few low (rw c.deref.ensures.value at c.in-Some.ensures.lookup.1) c.item-item.is) c.loop-i.invariant c.in_ok-separate.ensures c.in_ok-show_field-in-Some.ensures

pub show_tuple-loop-i-init : goal.show_tuple-loop-i-init
show_tuple-loop-i-init g t c = parts_begin g.W.Write.write_str_gives c.args.f.now c.write_str.new.self (40 ∷ []) (44 ∷ 32 ∷ []) (texts (layouts_of c.args.parts.now.items)) c.in_ok-write_str.ensures.writes

pub show_struct-loop-i-init : goal.show_struct-loop-i-init
show_struct-loop-i-init g t c = parts_begin g.W.Write.write_str_gives c.args.f.now c.write_str.new.self (123 ∷ []) (44 ∷ 32 ∷ []) (field_texts (fields_of c.args.fields.now.items)) c.in_ok-write_str.ensures.writes

pub show_entry-returns : goal.show_entry-returns
show_entry-returns g t c =
    let w = c.in-Group.pair in
    let key = text (layout_of c.args.key.now) in
    let content = text (layout_of c.args.content.now) in
    let u = c.index.result.now in
    let v = c.index-2.result.now in
    let seen : tree (values.Group w) ≡ nodes.Group (trees (map tree w.items)) = search (rules, values.the_lemmas) in
    let two : length w.items ≡ 2 = grind (arith, common_steps) in
    let first : u ≡ get_or w.items 0 u = grind (arith, common_steps) in
    let second : v ≡ get_or w.items 1 v = grind (arith, common_steps) in
    let whole : entry_text key content (tree c.args.entry.now) ≡ (key (tree u) ++? (Some (32 ∷ 61 ∷ 62 ∷ 32 ∷ []) ++? content (tree v))) = rw (c.in-Group.is, seen, pair_trees tree w.items u v two first second) refl in
    displays_on_ok_of_eq g.W.Write.write_str_gives _ _ _ _ _ (sym whole)
    (then_more g.W.Write.write_str_gives c.args.f.now c.show.new.f c.write_str.new.self c.show-2.new.f c.show-2.result (key (tree u)) (32 ∷ 61 ∷ 62 ∷ 32 ∷ []) (content (tree v))
    c.in_ok-show.ensures c.in_ok-write_str.ensures.writes c.show-2.ensures)

pub show_option-returns-in-Absent : goal.show_option-returns-in-Absent
show_option-returns-in-Absent g t c =
    let seen : tree values.Absent ≡ nodes.Absent = search (rules, values.the_lemmas) in
    rw (c.in-Absent.is, seen) c.write_str.ensures.writes

pub show_option-returns-in_ok-show-in-Present : goal.show_option-returns-in_ok-show-in-Present
show_option-returns-in_ok-show-in-Present g t c =
    let b = c.in-Present.held in
    let seen : tree (values.Present b) ≡ nodes.Present (tree b.value) = search (rules, values.the_lemmas) in
    let d : c.deref.result.now ≡ b.value = grind (arith, common_steps) in
    rw (c.in-Present.is, seen)
    (encloses g.W.Write.write_str_gives c.args.f.now c.write_str-in-Present.new.self c.show.new.f c.write_str-in-Present-2.new.self c.write_str-in-Present-2.result
    (83 ∷ 111 ∷ 109 ∷ 101 ∷ 40 ∷ []) (41 ∷ []) (text (layout_of c.args.content.now) (tree b.value))
    c.in_ok-write_str-in-Present.ensures.writes (rw d at c.in_ok-show-in-Present.ensures) c.write_str-in-Present-2.ensures.writes)

pub show_variant-returns-then-has_brackets : goal.show_variant-returns-then-has_brackets
show_variant-returns-then-has_brackets g t c =
    let n = c.args.variant.now in
    let x = layout_of n.content in
    let v = tree c.args.content.now in
    let full : is_unit x ≡ false = sym c.is_unit.ensures.empty ∙ c.if-is_unit.false in
    let own : has_brackets x ≡ true = sym c.has_brackets.ensures ∙ c.if-has_brackets.true in
    let whole : variant_text (string_bytes n.name) x (text x) v ≡ (Some c.deref.result.now ++? text x v) =
    rw c.deref.ensures (ap (λ o. Some (string_bytes n.name) ++? o) (content_brackets x (text x) v full own)) in
    displays_on_ok_of_eq g.W.Write.write_str_gives c.args.f.now c.show.new.f c.show.result _ _ (sym whole)
    (one_then g.W.Write.write_str_gives c.args.f.now c.write_str.new.self c.show.new.f c.show.result c.deref.result.now (text x v) c.in_ok-write_str.ensures.writes c.show.ensures)

pub show_variant-returns : goal.show_variant-returns
show_variant-returns g t c =
    let n = c.args.variant.now in
    let x = layout_of n.content in
    let v = tree c.args.content.now in
    let full : is_unit x ≡ false = sym c.is_unit.ensures.empty ∙ c.if-is_unit.false in
    let other : has_brackets x ≡ false = sym c.has_brackets.ensures ∙ c.if-has_brackets.false in
    let whole : variant_text (string_bytes n.name) x (text x) v ≡ (Some c.deref.result.now ++? enclosed (40 ∷ []) (text x v) (41 ∷ [])) =
    rw c.deref.ensures (ap (λ o. Some (string_bytes n.name) ++? o) (content_other x (text x) v full other)) in
    displays_on_ok_of_eq g.W.Write.write_str_gives c.args.f.now c.write_str-3.new.self c.write_str-3.result _ _ (sym whole)
    (one_then g.W.Write.write_str_gives c.args.f.now c.write_str.new.self c.write_str-3.new.self c.write_str-3.result c.deref.result.now (enclosed (40 ∷ []) (text x v) (41 ∷ []))
    c.in_ok-write_str.ensures.writes
    (encloses g.W.Write.write_str_gives c.write_str.new.self c.write_str-2.new.self c.show-2.new.f c.write_str-3.new.self c.write_str-3.result (40 ∷ []) (41 ∷ []) (text x v)
    c.in_ok-write_str-2.ensures.writes c.in_ok-show.ensures c.write_str-3.ensures.writes))

pub show_field-returns : goal.show_field-returns
show_field-returns g t c =
    let n = c.args.field.now in
    let x = layout_of n.content in
    let v = tree c.args.item.now in
    let whole : field_text (string_bytes n.name) (text x) v ≡ (Some (c.deref.result.now ++ (58 ∷ 32 ∷ [])) ++? text x v) = rw c.deref.ensures refl in
    displays_on_ok_of_eq g.W.Write.write_str_gives _ _ _ _ _ (sym whole)
    (two_then g.W.Write.write_str_gives c.args.f.now c.write_str.new.self c.write_str-2.new.self c.show.new.f c.show.result c.deref.result.now (58 ∷ 32 ∷ [])
    (text x v) c.in_ok-write_str.ensures.writes c.in_ok-write_str-2.ensures.writes c.show.ensures)
