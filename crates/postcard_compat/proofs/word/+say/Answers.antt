-- `say` and the functions under it, by the kind of type. The words of a whole are appended part by part (`Telling`).
use Rattle.std.proofs.Common.{◌≡◌, ◌<◌, ◌≤◌, [], ◌∷◌, ◌++◌, get_or, length, map, OnOk, sym, ap, subst, ◌∙◌, arith, rules}
use Rattle.std.proofs.lemmas.Grind.{common_steps}
use Rattle.postcard_wire.specs.Tree.{trees}
use Rattle.postcard_wire.specs.Tree as nodes
use Rattle.postcard_schema.specs.Lemmas.{contents_length, type_of_enum, type_of_map, type_of_struct}
use Rattle.postcard_schema.specs.Meaning.{contents, entry_of, type_of, types_of}
use Rattle.postcard_value.specs.Tree.{tree}
use Rattle.postcard_value.specs.declared.value.Value.{Group, Seq, Variant, the_lemmas}
use Rattle.postcard_compat.specs.Telling.{Appends, words_of}
use Rattle.postcard_compat.specs.Said.{End, Index, Saying, array_said, choice_said, each_said, elements_said, group_said, said, said_all, said_at}
use Rattle.postcard_compat.proofs.ByKind.{content_get}
use Rattle.postcard_compat.proofs.Telling.{appends_then, each_left, each_over, elements_left, elements_over, going_ends, list_says, part_next, parts_left, parts_over, pushed, said_content}
use Rattle.postcard_compat.proofs.word.+say.Goals as goal

pub say-returns-in-Struct : goal.say-returns-in-Struct
say-returns-in-Struct t c =
    subst (λ f. OnOk c.say_struct.result (Appends c.args.words.now.items c.say_struct.new.words.items (f (tree c.args.value.now))))
    (sym (ap said (ap type_of c.in-Struct.is ∙ type_of_struct c.in-Struct.fields))) c.say_struct.ensures

pub say-returns-in-Enum : goal.say-returns-in-Enum
say-returns-in-Enum t c =
    subst (λ f. OnOk c.say_variant.result (Appends c.args.words.now.items c.say_variant.new.words.items (f (tree c.args.value.now))))
    (sym (ap said (ap type_of c.in-Enum.is ∙ type_of_enum c.in-Enum.variants))) c.say_variant.ensures

pub say_list-returns : goal.say_list-returns
say_list-returns t c =
    let v = c.in-Seq.items in
    let f = said (type_of c.args.element.now) in
    let xs = c.deref-item-items.result.now in
    let k = c.loop-item.item-index in
    let seen : tree (Seq v) ≡ nodes.Seq (trees (map tree v.items)) = search (rules, the_lemmas) in
    let shown : tree c.args.value.now ≡ nodes.Seq (trees (map tree xs)) =
    ap tree c.in-Seq.is ∙ (seen ∙ ap (λ ys. nodes.Seq (trees (map tree ys))) (sym c.deref-item-items.ensures.value)) in
    let many : c.len.result ≡ length xs = grind (arith, common_steps) in
    list_says f xs c.args.value.now c.len.result c.args.words.now.items c.push.new.self.items c.loop-item.words.items shown many
    (pushed _ _ _ c.in_ok-push.ensures.items)
    (going_ends c.push.new.self.items c.loop-item.words.items (each_left f xs k) (each_said f (trees (map tree xs))) c.loop-item.invariant (each_over f xs k c.loop-item-test.false))

pub say_struct-loop-index-preserved : goal.say_struct-loop-index-preserved
say_struct-loop-index-preserved t c =
    let os = c.deref-field-items.result.now in
    let items = c.in-Group.items.items in
    let k = c.loop-index.index in
    let field = c.field-item.result in
    let x = c.in-Some.item.now in
    let low : k < length os = omega arith in
    let inside : k < length (contents os) = omega (arith, low, contents_length os) in
    let below : k < length c.deref.result.now = grind (arith, common_steps) in
    let found = subst (λ ys. (k < length ys) × (x ≡ get_or ys k x)) c.deref.ensures.value (below, c.in-Some.ensures.lookup.1) in
    part_next (contents os) items k field.content x inside (content_get os k field low c.field-item.is) found.0 found.1
    c.args.words.now.items c.loop-index.words.items c.say.new.words.items (said_all (types_of (contents os)) (trees (map tree items))) c.loop-index.invariant c.in_ok-say.ensures

pub say_struct-returns : goal.say_struct-returns
say_struct-returns t c =
    let os = c.deref-field-items.result.now in
    let v = c.in-Group.items in
    let k = c.loop-index.index in
    let seen : tree (Group v) ≡ nodes.Group (trees (map tree v.items)) = search (rules, the_lemmas) in
    let high : length (contents os) ≤ k = omega (arith, c.loop-index-test.false, contents_length os) in
    let all = said_all (types_of (contents os)) (trees (map tree v.items)) in
    let rest = going_ends c.args.words.now.items c.loop-index.words.items (parts_left (contents os) v.items k) all c.loop-index.invariant (parts_over (contents os) v.items k high) in
    let says : all ≡ group_said (said_all (types_of (contents c.args.fields.now.items))) (tree c.args.value.now) =
    ap (λ fs. said_all (types_of (contents fs)) (trees (map tree v.items))) c.deref-field-items.ensures.value
    ∙ sym (ap (group_said (said_all (types_of (contents c.args.fields.now.items)))) (ap tree c.in-Group.is ∙ seen)) in
    rest ∙ ap (λ ws. words_of c.args.words.now.items ++ ws) says

pub say_array-returns : goal.say_array-returns
say_array-returns t c =
    let v = c.in-Group.items in
    let f = said (type_of c.args.element.now) in
    let xs = c.deref-item-items.result.now in
    let k = c.loop-item.item-index in
    let seen : tree (Group v) ≡ nodes.Group (trees (map tree v.items)) = search (rules, the_lemmas) in
    let shown : tree c.args.value.now ≡ nodes.Group (trees (map tree xs)) =
    ap tree c.in-Group.is ∙ (seen ∙ ap (λ ys. nodes.Group (trees (map tree ys))) (sym c.deref-item-items.ensures.value)) in
    let each = going_ends c.args.words.now.items c.loop-item.words.items (elements_left f xs k) (elements_said f (trees (map tree xs))) c.loop-item.invariant
    (elements_over f xs k c.loop-item-test.false) in
    each ∙ ap (λ ws. words_of c.args.words.now.items ++ ws) (sym (ap (array_said f) shown))

pub say_tuple-loop-index-preserved : goal.say_tuple-loop-index-preserved
say_tuple-loop-index-preserved t c =
    let os = c.deref-part-items.result.now in
    let items = c.in-Group.items.items in
    let k = c.loop-index.index in
    let part = c.part-item.result in
    let x = c.in-Some.item.now in
    let low : k < length os = omega arith in
    let below : k < length c.deref.result.now = grind (arith, common_steps) in
    let found = subst (λ ys. (k < length ys) × (x ≡ get_or ys k x)) c.deref.ensures.value (below, c.in-Some.ensures.lookup.1) in
    part_next os items k part x low c.part-item.is found.0 found.1
    c.args.words.now.items c.loop-index.words.items c.say.new.words.items (said_all (types_of os) (trees (map tree items))) c.loop-index.invariant c.in_ok-say.ensures

pub say_tuple-returns : goal.say_tuple-returns
say_tuple-returns t c =
    let os = c.deref-part-items.result.now in
    let v = c.in-Group.items in
    let k = c.loop-index.index in
    let seen : tree (Group v) ≡ nodes.Group (trees (map tree v.items)) = search (rules, the_lemmas) in
    let all = said_all (types_of os) (trees (map tree v.items)) in
    let rest = going_ends c.args.words.now.items c.loop-index.words.items (parts_left os v.items k) all c.loop-index.invariant (parts_over os v.items k c.loop-index-test.false) in
    let says : all ≡ group_said (said_all (types_of c.args.parts.now.items)) (tree c.args.value.now) =
    ap (λ ps. said_all (types_of ps) (trees (map tree v.items))) c.deref-part-items.ensures.value
    ∙ sym (ap (group_said (said_all (types_of c.args.parts.now.items))) (ap tree c.in-Group.is ∙ seen)) in
    rest ∙ ap (λ ws. words_of c.args.words.now.items ++ ws) says

pub say-returns-after-loop-entry : goal.say-returns-after-loop-entry
say-returns-after-loop-entry t c =
    let v = c.in-Seq-value.entries in
    let f = said (entry_of (type_of c.in-Map.key.value) (type_of c.in-Map.content.value)) in
    let xs = c.deref-entry-items.result.now in
    let k = c.loop-entry.entry-index in
    let seen : tree (Seq v) ≡ nodes.Seq (trees (map tree v.items)) = search (rules, the_lemmas) in
    let shown : tree c.args.value.now ≡ nodes.Seq (trees (map tree xs)) =
    ap tree c.in-Seq-value.is ∙ (seen ∙ ap (λ ys. nodes.Seq (trees (map tree ys))) (sym c.deref-entry-items.ensures.value)) in
    let many : c.len.result ≡ length xs = grind (arith, common_steps) in
    let all = list_says f xs c.args.value.now c.len.result c.args.words.now.items c.push.new.self.items c.loop-entry.words.items shown many
    (pushed _ _ _ c.in_ok-push-in-Map.ensures.items)
    (going_ends c.push.new.self.items c.loop-entry.words.items (each_left f xs k) (each_said f (trees (map tree xs))) c.loop-entry.invariant (each_over f xs k c.loop-entry-test.false)) in
    subst (λ g. Appends c.args.words.now.items c.loop-entry.words.items (g (tree c.args.value.now)))
    (sym (ap said (ap type_of c.in-Map.is ∙ type_of_map c.in-Map.key c.in-Map.content))) all

pub say_variant-returns : goal.say_variant-returns
say_variant-returns t c =
    let ns = c.args.variants.now.items in
    let ts = types_of (contents ns) in
    let i = c.in-Variant.index in
    let held = c.in-Variant.content in
    let n = c.in-Some.variant.now in
    let d = c.deref-2.result.now in
    let body = said (type_of n.content) (tree d) in
    let low : i < length c.deref.result.now = grind (arith, common_steps) in
    let found = subst (λ ys. (i < length ys) × (n ≡ get_or ys i n)) c.deref.ensures.value (low, c.in-Some.ensures.lookup.1) in
    let seen : tree (Variant i held) ≡ nodes.Variant i (tree held.value) = search (rules, the_lemmas) in
    let says : Index i ∷ (body ++ End ∷ []) ≡ choice_said (said_at ts) (tree c.args.value.now) =
    ap (λ (g : Saying). Index i ∷ (g (tree d) ++ End ∷ [])) (sym (said_content ns i n found.0 found.1))
    ∙ (ap (λ u. Index i ∷ (said_at ts i (tree u) ++ End ∷ [])) c.deref-2.ensures ∙ sym (ap (choice_said (said_at ts)) (ap tree c.in-Variant.is ∙ seen))) in
    let ends = appends_then c.push.new.self.items c.say.new.words.items c.push-2.new.self.items body (End ∷ []) c.in_ok-say.ensures (pushed _ _ _ c.in_ok-push-2.ensures.items) in
    appends_then c.args.words.now.items c.push.new.self.items c.push-2.new.self.items (Index i ∷ []) (body ++ End ∷ []) (pushed _ _ _ c.in_ok-push.ensures.items) ends
    ∙ ap (λ ws. words_of c.args.words.now.items ++ ws) says
