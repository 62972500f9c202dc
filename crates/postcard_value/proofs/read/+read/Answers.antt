-- The mutually recursive readers of values, by the kind of the schema. Reading a value reads a tree of its type. The result of a whole
-- comes from those of its parts, read in order (`Rows`).
use Rattle.std.proofs.Common.{◌≡◌, suc, ◌+◌, ◌-◌, ◌<◌, List, map, length, drop, refl, sym, ap, ◌∙◌, arith, rules}
use Rattle.std.proofs.lemmas.Grind.{common_steps}
use Rattle.std.proofs.lemmas.List.{drop_all}
use Rattle.postcard_wire.specs.Tree as nodes
use Rattle.postcard_de_nodes.specs.CountLemmas.{list_read, list_refused, count_refused}
use Rattle.postcard_de_nodes.specs.ReadLemmas.{is_refusal, out_of_memory}
use Rattle.postcard_de_nodes.specs.SeenLemmas.{recast, passed_on, seen_as}
use Rattle.postcard_de.proofs.Enums.{index_refused, content_refused, variant_read, unknown_index}
use Rattle.postcard_de.proofs.Lists.{one_and_rest}
use Rattle.postcard_de.proofs.Options.{some_read, some_refused}
use Rattle.postcard_de.proofs.Parts.{part_and_rest}
use Rattle.postcard_schema.specs.Meaning.{contents, entry_of, type_of, types_of, no_types, reads, reads_at}
use Rattle.postcard_schema.specs.Lemmas.{content_at, no_content_at, type_of_enum, type_of_map, type_of_struct}
use Rattle.postcard_value.specs.{IsTree, tree, trees}
use Rattle.postcard_value.specs.declared.value.Value.{Value, Present, Seq, Group, Variant, the_lemmas}
use Rattle.postcard_value.proofs.Nodes.{as_count, no_count, as_list, no_list, no_memory, no_option, one_taken}
use Rattle.postcard_value.proofs.Rows.{list_tree, part_next, field_next, elements_over, row_begins, row_goes_on, row_stops, row_ends, group_read, group_refused, key_stops, value_stops, entry_read}
use Rattle.postcard_value.proofs.read.+read.Goals as goal

pub read_value-returns-in-Struct : goal.read_value-returns-in-Struct
read_value-returns-in-Struct g t c = rw (c.in-Struct.is, type_of_struct c.in-Struct.fields) c.read_struct.ensures

pub read_value-returns-in-Enum : goal.read_value-returns-in-Enum
read_value-returns-in-Enum g t c = rw (c.in-Enum.is, type_of_enum c.in-Enum.variants) c.read_variant.ensures

pub read_part-returns-in_err-item : goal.read_part-returns-in_err-item
read_part-returns-in_err-item g t c =
    rw (is_refusal c.from_residual.result c.in_err-item.field-0.0 c.from_residual.ensures.1) c.in_err-item.ensures

pub read_part-returns-in_err-push : goal.read_part-returns-in_err-push
read_part-returns-in_err-push g t c =
    let back = c.from_residual-in_err-push in
    rw (is_refusal back.result c.in_err-push.field-0.0 back.ensures.1, c.in_err-push.ensures.only_out_of_memory)
    (out_of_memory c.in_ok-item.ensures.leaves tt)

pub read_part-returns : goal.read_part-returns
read_part-returns g t c = (c.in_ok-item.item, c.in_ok-push.ensures.added, c.in_ok-item.ensures)

-- ---- options

pub read_option-returns-in_err-deserialize_u8 : goal.read_option-returns-in_err-deserialize_u8
read_option-returns-in_err-deserialize_u8 g t c =
    rw (is_refusal c.from_residual.result c.in_err-deserialize_u8.field-0.0 c.from_residual.ensures.1)
    (no_option g.F.Flavor.lawful c.in_err-deserialize_u8.ensures.reads)

pub read_option-returns-in_err-value-in-1 : goal.read_option-returns-in_err-value-in-1
read_option-returns-in_err-value-in-1 g t c =
    let r = c.in_ok-deserialize_u8.ensures.reads in
    passed_on (λ x a. a) (λ e h. h) c.from_residual-in_err-value-in-1.ensures.1
    (some_refused g.F.Flavor.lawful (one_taken r c.in-1.is) r.leaves c.in_err-value-in-1.ensures)

pub read_option-returns-in_err-held-in-1 : goal.read_option-returns-in_err-held-in-1
read_option-returns-in_err-held-in-1 g t c =
    no_memory c.from_residual-in_err-held-in-1.ensures.1 c.in_err-held-in-1.ensures.only_out_of_memory
    (g.F.Flavor.lawful.joins _ _ _ c.in_ok-deserialize_u8.ensures.reads.leaves c.in_ok-value-in-1.ensures.leaves)

pub read_option-returns-in_ok-held-in-1 : goal.read_option-returns-in_ok-held-in-1
read_option-returns-in_ok-held-in-1 g t c =
    let r = c.in_ok-deserialize_u8.ensures.reads in
    let held = c.in_ok-held-in-1.held in
    let seen : tree (Present held) ≡ nodes.Present (tree c.in_ok-value-in-1.value) = rw (← c.in_ok-held-in-1.ensures.held) (search
    (rules, the_lemmas)) in
    recast (λ x h. h.1 ∙ ap nodes.Present h.2 ∙ sym seen) (some_read g.F.Flavor.lawful (one_taken r c.in-1.is) r.leaves c.in_ok-value-in-1.ensures)

-- ---- lists, arrays and maps

pub read_list-returns-in_err-count : goal.read_list-returns-in_err-count
read_list-returns-in_err-count g t c =
    rw (is_refusal c.from_residual.result c.in_err-count.field-0.0 c.from_residual.ensures.1)
    (count_refused g.F.Flavor.lawful (no_count c.in_err-count.ensures.reads))

pub read_list-returns-in_err-items : goal.read_list-returns-in_err-items
read_list-returns-in_err-items g t c =
    passed_on (λ x a. a) (λ e h. h) c.from_residual-in_err-items.ensures.1
    (list_refused g.F.Flavor.lawful (λ (vs : List Value). vs) (as_count c.in_ok-count.ensures.reads) (no_list c.in_err-items.ensures))

pub read_list-returns : goal.read_list-returns
read_list-returns g t c =
    let v = c.in_ok-items.items in
    let seen : tree (Seq v) ≡ nodes.Seq (trees (map tree v.items)) = search (rules, the_lemmas) in
    recast (λ x h. list_tree tree x v.items h ∙ sym seen)
    (list_read g.F.Flavor.lawful (λ (vs : List Value). vs) v.items (as_count c.in_ok-count.ensures.reads) (as_list c.in_ok-items.ensures))

pub read_array-returns-in_err-items : goal.read_array-returns-in_err-items
read_array-returns-in_err-items g t c =
    passed_on (λ x a. (a.0, a.1, (a.2, a.3))) (λ e h. h) c.from_residual.ensures.1 (group_refused (no_list c.in_err-items.ensures))

pub read_array-returns : goal.read_array-returns
read_array-returns g t c =
    let v = c.in_ok-items.items in
    let seen : tree (Group v) ≡ nodes.Group (trees (map tree v.items)) = search (rules, the_lemmas) in
    seen_as (λ x a. (a.0, a.1, (a.2, a.3))) (λ x a h. ((a.0, a.1, a.2.0, a.2.1), h)) (group_read (Group v) seen (as_list c.in_ok-items.ensures))

pub read_elements-loop-init : goal.read_elements-loop-init
read_elements-loop-init g t c =
    let whole : c.args.count - 0 ≡ c.args.count = omega arith in
    rw whole (row_begins c.new-items.ensures.items)

pub read_elements-returns-in_err-read_part : goal.read_elements-returns-in_err-read_part
read_elements-returns-in_err-read_part g t c =
    let more : c.args.count - c.loop.counter ≡ suc (c.args.count - (c.loop.counter + 1)) = omega arith in
    passed_on (λ x a. a) (λ e h. h) c.from_residual.ensures.1
    (row_stops g.F.Flavor.lawful (one_and_rest (reads (type_of c.args.element.now)) IsTree _)
    (rw more at c.loop.invariant) c.in_err-read_part.ensures)

pub read_elements-loop-preserved : goal.read_elements-loop-preserved
read_elements-loop-preserved g t c =
    let more : c.args.count - c.loop.counter ≡ suc (c.args.count - (c.loop.counter + 1)) = omega arith in
    row_goes_on g.F.Flavor.lawful (one_and_rest (reads (type_of c.args.element.now)) IsTree _) (rw more at c.loop.invariant) c.in_ok-read_part.ensures

pub read_elements-returns : goal.read_elements-returns
read_elements-returns g t c =
    let none : c.args.count - c.loop.counter ≡ 0 = omega arith in
    recast (λ x h. h) (row_ends g.F.Flavor.lawful (elements_over _) (rw none at c.loop.invariant))

-- ---- maps

pub read_value-returns-in_err-count-in-Map : goal.read_value-returns-in_err-count-in-Map
read_value-returns-in_err-count-in-Map g t c =
    rw (c.in-Map.is, type_of_map c.in-Map.key c.in-Map.value, is_refusal c.from_residual.result c.in_err-count-in-Map.field-0.0 c.from_residual.ensures.1)
    (count_refused g.F.Flavor.lawful (no_count c.in_err-count-in-Map.ensures.reads))

pub read_value-returns-in_err-read_part-in-Map : goal.read_value-returns-in_err-read_part-in-Map
read_value-returns-in_err-read_part-in-Map g t c =
    let laws = g.F.Flavor.lawful in
    let k = c.in-Map.key in
    let v = c.in-Map.value in
    let n = c.in_ok-count-in-Map.count in
    let more : n - c.loop.counter ≡ suc (n - (c.loop.counter + 1)) = omega arith in
    rw (c.in-Map.is, type_of_map k v) (passed_on (λ x a. a) (λ e h. h) c.from_residual-in_err-read_part-in-Map.ensures.1
    (list_refused laws (λ (vs : List Value). vs) (as_count c.in_ok-count-in-Map.ensures.reads)
    (row_stops laws (one_and_rest (reads (entry_of (type_of k.value) (type_of v.value))) IsTree _) (rw more at c.loop.invariant)
    (key_stops laws (type_of k.value) (type_of v.value) c.new-pair.ensures.items (rw c.deref-in-loop.ensures at c.in_err-read_part-in-Map.ensures)))))

pub read_value-returns-in_err-read_part-in-Map-2 : goal.read_value-returns-in_err-read_part-in-Map-2
read_value-returns-in_err-read_part-in-Map-2 g t c =
    let laws = g.F.Flavor.lawful in
    let k = c.in-Map.key in
    let v = c.in-Map.value in
    let n = c.in_ok-count-in-Map.count in
    let more : n - c.loop.counter ≡ suc (n - (c.loop.counter + 1)) = omega arith in
    rw (c.in-Map.is, type_of_map k v) (passed_on (λ x a. a) (λ e h. h) c.from_residual-in_err-read_part-in-Map-2.ensures.1
    (list_refused laws (λ (vs : List Value). vs) (as_count c.in_ok-count-in-Map.ensures.reads)
    (row_stops laws (one_and_rest (reads (entry_of (type_of k.value) (type_of v.value))) IsTree _) (rw more at c.loop.invariant)
    (value_stops laws (type_of k.value) (type_of v.value) c.new-pair.ensures.items (rw c.deref-in-loop.ensures at c.in_ok-read_part-in-Map.ensures)
    (rw c.deref-in-loop-2.ensures at c.in_err-read_part-in-Map-2.ensures)))))

pub read_value-returns-in_err-push-in-Map : goal.read_value-returns-in_err-push-in-Map
read_value-returns-in_err-push-in-Map g t c =
    let laws = g.F.Flavor.lawful in
    let k = c.in-Map.key in
    let v = c.in-Map.value in
    let n = c.in_ok-count-in-Map.count in
    let more : n - c.loop.counter ≡ suc (n - (c.loop.counter + 1)) = omega arith in
    rw (c.in-Map.is, type_of_map k v) (passed_on (λ x a. a) (λ e h. h)
    (rw c.in_err-push-in-Map.ensures.only_out_of_memory at c.from_residual-in_err-push-in-Map.ensures.1)
    (list_refused laws (λ (vs : List Value). vs) (as_count c.in_ok-count-in-Map.ensures.reads)
    (row_stops laws (one_and_rest (reads (entry_of (type_of k.value) (type_of v.value))) IsTree _) (rw more at c.loop.invariant)
    (out_of_memory (laws.joins _ _ _ c.in_ok-read_part-in-Map.ensures.2.leaves c.in_ok-read_part-in-Map-2.ensures.2.leaves) tt))))

pub read_value-loop-preserved : goal.read_value-loop-preserved
read_value-loop-preserved g t c =
    let laws = g.F.Flavor.lawful in
    let k = c.in-Map.key in
    let v = c.in-Map.value in
    let n = c.in_ok-count-in-Map.count in
    let more : n - c.loop.counter ≡ suc (n - (c.loop.counter + 1)) = omega arith in
    let pair = c.read_part-in-loop.new.items in
    let seen : tree (Group pair) ≡ nodes.Group (trees (map tree pair.items)) = search (rules, the_lemmas) in
    row_goes_on laws (one_and_rest (reads (entry_of (type_of k.value) (type_of v.value))) IsTree _) (rw more at c.loop.invariant) (
      Group pair,
      c.in_ok-push-in-Map.ensures.added,
      entry_read laws (type_of k.value) (type_of v.value) c.new-pair.ensures.items (rw c.deref-in-loop.ensures at c.in_ok-read_part-in-Map.ensures)
          (Group pair) seen
          (rw c.deref-in-loop-2.ensures at c.in_ok-read_part-in-Map-2.ensures),
    )

pub read_value-returns-after-loop : goal.read_value-returns-after-loop
read_value-returns-after-loop g t c =
    let laws = g.F.Flavor.lawful in
    let v = c.loop.items in
    let none : c.in_ok-count-in-Map.count - c.loop.counter ≡ 0 = omega arith in
    let seen : tree (Seq v) ≡ nodes.Seq (trees (map tree v.items)) = search (rules, the_lemmas) in
    rw (c.in-Map.is, type_of_map c.in-Map.key c.in-Map.value)
    (recast (λ x h. list_tree tree x v.items h ∙ sym seen)
    (list_read laws (λ (vs : List Value). vs) v.items (as_count c.in_ok-count-in-Map.ensures.reads) (row_ends laws (elements_over _)
    (rw none at c.loop.invariant))))

-- ---- tuples and structs

pub read_tuple-returns-in_err-read_part : goal.read_tuple-returns-in_err-read_part
read_tuple-returns-in_err-read_part g t c =
    let laws = g.F.Flavor.lawful in
    let l = c.loop-part in
    let xs = c.deref-part-items.result.now in
    let here = part_next xs l.part-index c.part-item.result (omega arith) c.part-item.is in
    rw (is_refusal c.from_residual.result c.in_err-read_part.field-0.0 c.from_residual.ensures.1, ← c.deref-part-items.ensures.value)
    (group_refused (row_stops laws (part_and_rest (reads (type_of c.part-item.result)) IsTree _) (rw here at l.invariant) c.in_err-read_part.ensures))

pub read_tuple-loop-part-preserved : goal.read_tuple-loop-part-preserved
read_tuple-loop-part-preserved g t c =
    let l = c.loop-part in
    let xs = c.deref-part-items.result.now in
    let here = part_next xs l.part-index c.part-item.result (omega arith) c.part-item.is in
    row_goes_on g.F.Flavor.lawful (part_and_rest (reads (type_of c.part-item.result)) IsTree _) (rw here at l.invariant) c.in_ok-read_part.ensures

pub read_tuple-returns : goal.read_tuple-returns
read_tuple-returns g t c =
    let l = c.loop-part in
    let xs = c.deref-part-items.result.now in
    let none : types_of (drop l.part-index xs) ≡ no_types = ap types_of (drop_all l.part-index xs (omega arith)) in
    let seen : tree (Group l.items) ≡ nodes.Group (trees (map tree l.items.items)) = search (rules, the_lemmas) in
    rw (← c.deref-part-items.ensures.value) (group_read (Group l.items) seen (row_ends g.F.Flavor.lawful (refl, λ ts e. e) (rw none at l.invariant)))

pub read_struct-returns-in_err-read_part : goal.read_struct-returns-in_err-read_part
read_struct-returns-in_err-read_part g t c =
    let laws = g.F.Flavor.lawful in
    let l = c.loop-field in
    let xs = c.deref-field-items.result.now in
    let here = field_next xs l.field-index c.field-item.result (omega arith) c.field-item.is in
    rw (is_refusal c.from_residual.result c.in_err-read_part.field-0.0 c.from_residual.ensures.1, ← c.deref-field-items.ensures.value)
    (group_refused (row_stops laws (part_and_rest (reads (type_of c.field-item.result.content)) IsTree _)
    (rw here at l.invariant) c.in_err-read_part.ensures))

pub read_struct-loop-field-preserved : goal.read_struct-loop-field-preserved
read_struct-loop-field-preserved g t c =
    let l = c.loop-field in
    let xs = c.deref-field-items.result.now in
    let here = field_next xs l.field-index c.field-item.result (omega arith) c.field-item.is in
    row_goes_on g.F.Flavor.lawful (part_and_rest (reads (type_of c.field-item.result.content)) IsTree _)
    (rw here at l.invariant) c.in_ok-read_part.ensures

pub read_struct-returns : goal.read_struct-returns
read_struct-returns g t c =
    let l = c.loop-field in
    let xs = c.deref-field-items.result.now in
    let none : types_of (contents (drop l.field-index xs)) ≡ no_types = ap (λ ys. types_of (contents ys)) (drop_all l.field-index xs (omega arith)) in
    let seen : tree (Group l.items) ≡ nodes.Group (trees (map tree l.items.items)) = search (rules, the_lemmas) in
    rw (← c.deref-field-items.ensures.value) (group_read (Group l.items) seen (row_ends g.F.Flavor.lawful (refl, λ ts e. e) (rw none at l.invariant)))

-- ---- enums

pub read_variant-returns-in_err-index : goal.read_variant-returns-in_err-index
read_variant-returns-in_err-index g t c =
    index_refused g.F.Flavor.lawful c.from_residual.ensures.1 c.in_err-index.ensures.reads

pub read_variant-returns-in_default : goal.read_variant-returns-in_default
read_variant-returns-in_default g t c =
    let xs = c.deref.result.now in
    let i = c.in_ok-index.index in
    let high : i < length xs → ⊥ = λ low. grind (arith, common_steps) in
    rw (← c.deref.ensures.value)
    (unknown_index g.F.Flavor.lawful tt (λ x r. no_content_at xs i x high r) c.in_ok-index.ensures.reads)

pub read_variant-returns-in_err-content : goal.read_variant-returns-in_err-content
read_variant-returns-in_err-content g t c =
    let xs = c.deref.result.now in
    let i = c.in_ok-index.index in
    let s = c.in-Some.variant.now in
    let low : i < length xs = grind (arith, common_steps) in
    let here : reads_at (types_of (contents xs)) i ≡ reads (type_of s.content) = content_at xs i s low c.in-Some.ensures.lookup.1 in
    rw (← c.deref.ensures.value)
    (content_refused g.F.Flavor.lawful (λ e h. h) c.from_residual-in_err-content.ensures.1 c.in_ok-index.ensures.reads
    (rw (← here) at c.in_err-content.ensures))

pub read_variant-returns-in_err-held : goal.read_variant-returns-in_err-held
read_variant-returns-in_err-held g t c =
    no_memory c.from_residual-in_err-held.ensures.1 c.in_err-held.ensures.only_out_of_memory
    (g.F.Flavor.lawful.joins _ _ _ c.in_ok-index.ensures.reads.leaves c.in_ok-content.ensures.leaves)

pub read_variant-returns : goal.read_variant-returns
read_variant-returns g t c =
    let xs = c.deref.result.now in
    let i = c.in_ok-index.index in
    let s = c.in-Some.variant.now in
    let low : i < length xs = grind (arith, common_steps) in
    let here : reads_at (types_of (contents xs)) i ≡ reads (type_of s.content) = content_at xs i s low c.in-Some.ensures.lookup.1 in
    let held = c.in_ok-held.held in
    let seen : tree (Variant i held) ≡ nodes.Variant i (tree c.in_ok-content.content) = rw (← c.in_ok-held.ensures.held) (search
    (rules, the_lemmas)) in
    rw (← c.deref.ensures.value)
    (variant_read g.F.Flavor.lawful (λ x h. ap (nodes.Variant i) h ∙ sym seen) c.in_ok-index.ensures.reads
    (rw (← here) at c.in_ok-content.ensures))
