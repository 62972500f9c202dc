-- The mutually recursive readers of values, by the kind of the schema. Each goal shows that the text read denotes the value (`spelled`),
-- and that each text of a value is read (`accepted`). The result of a whole comes from those of its parts, read in order (`Readers`).
use Rattle.std.proofs.Common.{◌≡◌, ◌+◌, ◌<◌, ◌^◌, [], drop, length, string_bytes, vec_len, get_or, Ok, Err, refl, sym, ap, ◌∙◌, true≢false, arith, rules, inl, inr}
use Rattle.std.proofs.lemmas.Bool.Decides.{Decides-ltb}
use Rattle.std.proofs.lemmas.Grind.{common_steps}
use Rattle.std.proofs.lemmas.List.{drop_all}
use Rattle.std.specs.Bool.{◌==◌}
use Rattle.std.specs.Prelude.{is_some}
use Rattle.postcard_wire.specs.Tree.{NoTrees, trees}
use Rattle.postcard_wire.specs.Tree as nodes
use Rattle.postcard_schema.specs.Lemmas.{type_of_leaf, type_of_option, type_of_seq, type_of_map, type_of_array, type_of_tuple, type_of_struct, type_of_enum}
use Rattle.postcard_schema_text.specs.FrontLemmas.{word_taken}
use Rattle.postcard_schema_text.proofs.Refusals.{is_empty, takes_le, takes_less}
use Rattle.postcard_value.specs.declared.value.Value.{Absent, Present, Seq, Group, Variant, the_lemmas}
use Rattle.postcard_value_text.specs.{AreNamed, HasDistinctNames, HaveDistinctNames, ReadsTree, SpellsTree, fields_of, layout_of, layouts_of, reads}
use Rattle.postcard_value_text.specs.{tree, type_of}
use Rattle.postcard_value_text.proofs.Choices.{inner_read, inner_refused, inner_unclosed, unopened, none_read, some_read, option_missed, unit_read, brackets_read, parentheses_read, FirstCalled, variant_missed, variant_refused, variant_read}
use Rattle.postcard_value_text.proofs.Groups.{entry_names, entry_reads, entry_spells, distinct_at, named_at, field_reads, field_spells, part_reads, part_spells, part_sets, same_parts, field_sets, same_fields, field_read, label_missed, key_refused, arrow_missed, value_refused, entry_read, group_unopened, group_refused, group_unclosed, group_read}
use Rattle.postcard_value_text.proofs.Items.{row, opens, items_none, items_cut, item_refused, item_comma, item_last, item_unclosed, list_read, list_refused, list_unopened, array_read, array_refused, array_unopened, array_uncounted}
use Rattle.postcard_value_text.proofs.Layouts.{layout_of_leaf, layout_of_option, layout_of_seq, layout_of_map, layout_of_array, layout_of_tuple, layout_of_struct, layout_of_enum}
use Rattle.postcard_value_text.proofs.Openings.{tree_opens, entry_opens}
use Rattle.postcard_value_text.proofs.Parts.{next_part, not_none, parts_end, part_not_led, part_refused, part_read}
use Rattle.postcard_value_text.proofs.Readers.{going_begins, going_on, going_ends, going_last, going_stops, failed, held_as, named_as, no_memory, passed_on, took_sign}
use Rattle.postcard_value_text.proofs.read.+text.Goals as goal

-- ---- the elements of a list or an array

pub read_items-loop-init : goal.read_items-loop-init
read_items-loop-init t c = record { going = going_begins _ c.new-items.ensures.items; short = omega arith }

pub read_items-loop-preserved : goal.read_items-loop-preserved
read_items-loop-preserved t c =
    let x = layout_of c.args.element.now in
    let one = rw (c.take.ensures.left c.if-take.false) at c.in_ok-read.ensures in
    let comma = c.take-in-loop.ensures.taken c.if-not-take.false in
    record {
      going = going_on c.loop.invariant.going c.in_ok-push.ensures.added
          (item_comma 93 (HasDistinctNames x) (reads (type_of c.args.element.now)) (SpellsTree x) (inl refl) (c.take.ensures.none c.if-take.false refl) one (took_sign 44 refl comma));
      short =
          let le = takes_le (SpellsTree x (tree c.in_ok-read.field-0)) c.loop.rest.now c.read.new.rest.now one.spelled in
          let less = takes_less 44 c.read.new.rest.now c.take-in-loop.new.rest.now comma in
          omega (arith, c.loop.invariant.short, le, less);
    }

pub read_items-returns-then-take : goal.read_items-returns-then-take
read_items-returns-then-take t c =
    let x = layout_of c.args.element.now in
    held_as refl (going_ends c.loop.invariant.going
    (items_none 93 (HasDistinctNames x) (reads (type_of c.args.element.now)) (SpellsTree x) (inl refl) (λ names. opens (SpellsTree x) (λ u a r k. tree_opens x u a r names k))
    (took_sign 93 refl (c.take.ensures.taken c.if-take.true))))

pub read_items-returns-in_err-read : goal.read_items-returns-in_err-read
read_items-returns-in_err-read t c =
    let x = layout_of c.args.element.now in
    passed_on _ c.from_residual.ensures.1 (going_stops c.loop.invariant.going
    (item_refused 93 (HasDistinctNames x) (reads (type_of c.args.element.now)) (SpellsTree x) (inl refl) (c.take.ensures.none c.if-take.false refl)
    (failed (rw (c.take.ensures.left c.if-take.false) at c.in_err-read.ensures))))

pub read_items-returns-in_err-push : goal.read_items-returns-in_err-push
read_items-returns-in_err-push t c = no_memory _ _ c.from_residual-in_err-push.ensures.1 c.in_err-push.ensures.only_out_of_memory

pub read_items-returns-in_err-expect : goal.read_items-returns-in_err-expect
read_items-returns-in_err-expect t c =
    let x = layout_of c.args.element.now in
    let left = c.take-in-loop.ensures.left c.if-not-take.true in
    passed_on _ c.from_residual-in_err-expect.ensures.1 (going_stops c.loop.invariant.going
    (item_unclosed 93 (HasDistinctNames x) (reads (type_of c.args.element.now)) (SpellsTree x) (inl refl) (c.take.ensures.none c.if-take.false refl)
    (rw (c.take.ensures.left c.if-take.false) at c.in_ok-read.ensures) (c.take-in-loop.ensures.none c.if-not-take.true refl) _
    (λ b h. c.in_err-expect.ensures.accepted b refl (rw left h))))

pub read_items-returns-then-not-take : goal.read_items-returns-then-not-take
read_items-returns-then-not-take t c =
    let x = layout_of c.args.element.now in
    held_as refl (going_last c.loop.invariant.going c.in_ok-push.ensures.added
    (item_last 93 (HasDistinctNames x) (reads (type_of c.args.element.now)) (SpellsTree x) (inl refl) (c.take.ensures.none c.if-take.false refl)
    (rw (c.take.ensures.left c.if-take.false) at c.in_ok-read.ensures) (c.take-in-loop.ensures.none c.if-not-take.true refl)
    (took_sign 93 refl (rw (c.take-in-loop.ensures.left c.if-not-take.true) at c.in_ok-expect.ensures.taken))))

pub read_items-returns : goal.read_items-returns
read_items-returns t c =
    let x = layout_of c.args.element.now in
    let none : c.loop.rest.now ≡ [] = is_empty c.loop.rest.now (omega (arith, c.loop.invariant.short, c.loop-test.false)) in
    passed_on (Err _) refl (going_stops c.loop.invariant.going
    (items_cut 93 (HasDistinctNames x) (reads (type_of c.args.element.now)) (SpellsTree x) (inl refl) _ (λ names. opens (SpellsTree x) (λ u a r k. tree_opens x u a r names k)) none))

-- ---- lists and arrays

pub read_list-returns-in_err-expect : goal.read_list-returns-in_err-expect
read_list-returns-in_err-expect t c =
    passed_on _ c.from_residual.ensures.1 (list_unopened (SpellsTree (layout_of c.args.element.now)) 91 93 refl _ (λ b h. c.in_err-expect.ensures.accepted b refl h))

pub read_list-returns-in_err-read_items : goal.read_list-returns-in_err-read_items
read_list-returns-in_err-read_items t c =
    passed_on _ c.from_residual-in_err-read_items.ensures.1
    (list_refused (SpellsTree (layout_of c.args.element.now)) 91 93 refl c.in_ok-expect.ensures.taken (failed c.in_err-read_items.ensures))

pub read_list-returns : goal.read_list-returns
read_list-returns t c =
    let v = c.in_ok-read_items.field-0 in
    let seen : tree (Seq v) ≡ nodes.Seq (row v.items) = search (rules, the_lemmas) in
    list_read (SpellsTree (layout_of c.args.element.now)) 91 93 refl (Seq v) seen (omega (arith, v.small)) c.in_ok-expect.ensures.taken (held_as refl c.in_ok-read_items.ensures)

pub read_array-returns-in_err-expect : goal.read_array-returns-in_err-expect
read_array-returns-in_err-expect t c =
    passed_on _ c.from_residual.ensures.1 (array_unopened (SpellsTree (layout_of c.args.element.now)) c.args.count _ (λ b h. c.in_err-expect.ensures.accepted b refl h))

pub read_array-returns-in_err-items : goal.read_array-returns-in_err-items
read_array-returns-in_err-items t c =
    passed_on _ c.from_residual-in_err-items.ensures.1
    (array_refused (SpellsTree (layout_of c.args.element.now)) c.args.count c.in_ok-expect.ensures.taken (failed c.in_err-items.ensures))

pub read_array-returns-then-len-count : goal.read_array-returns-then-len-count
read_array-returns-then-len-count t c =
    array_uncounted (SpellsTree (layout_of c.args.element.now)) c.args.count c.in_ok-expect.ensures.taken (held_as refl c.in_ok-items.ensures) _
    (λ long. c.if-len-count.true (grind (arith, common_steps, long)))

pub read_array-returns : goal.read_array-returns
read_array-returns t c =
    let v = c.in_ok-items.items in
    let seen : tree (Group v) ≡ nodes.Group (row v.items) = search (rules, the_lemmas) in
    let long : length v.items ≡ c.args.count = grind (arith, common_steps) in
    array_read (SpellsTree (layout_of c.args.element.now)) c.args.count c.in_ok-expect.ensures.taken (held_as refl c.in_ok-items.ensures) (Group v) seen long

-- ---- options

pub read_option-returns-in_err-some : goal.read_option-returns-in_err-some
read_option-returns-in_err-some t c =
    passed_on _ c.from_residual.ensures.1 (option_missed (SpellsTree (layout_of c.args.content.now)) _
    (λ some x h ends. c.in_err-some.ensures.accepted some x h ends))

pub read_option-returns-then-not-some : goal.read_option-returns-then-not-some
read_option-returns-then-not-some t c =
    let seen : tree Absent ≡ nodes.Absent = search (rules, the_lemmas) in
    none_read (SpellsTree (layout_of c.args.content.now)) Absent seen (rw c.if-not-some.true at c.in_ok-some.ensures.taken)
    (λ other x h ends. rw c.if-not-some.true at (c.in_ok-some.ensures.accepted other x h ends))

pub read_option-returns-in_err-value : goal.read_option-returns-in_err-value
read_option-returns-in_err-value t c =
    passed_on _ c.from_residual-in_err-value.ensures.1 (some_read (SpellsTree (layout_of c.args.content.now)) (Err _)
    (rw c.if-not-some.false at c.in_ok-some.ensures.taken) (λ other x h ends. rw c.if-not-some.false at (c.in_ok-some.ensures.accepted other x h ends))
    c.in_err-value.ensures)

pub read_option-returns-in_err-boxed : goal.read_option-returns-in_err-boxed
read_option-returns-in_err-boxed t c = no_memory _ _ c.from_residual-in_err-boxed.ensures.1 c.in_err-boxed.ensures.only_out_of_memory

pub read_option-returns : goal.read_option-returns
read_option-returns t c =
    let held = c.in_ok-boxed.field-0 in
    let seen : tree (Present held) ≡ nodes.Present (tree c.in_ok-value.value) = rw (← c.in_ok-boxed.ensures.held) (search (rules, the_lemmas)) in
    held_as (sym seen) (some_read (SpellsTree (layout_of c.args.content.now)) (Ok c.in_ok-value.value)
    (rw c.if-not-some.false at c.in_ok-some.ensures.taken) (λ other x h ends. rw c.if-not-some.false at (c.in_ok-some.ensures.accepted other x h ends))
    c.in_ok-value.ensures)

-- ---- values in parentheses

pub read_enclosed-returns-in_err-expect : goal.read_enclosed-returns-in_err-expect
read_enclosed-returns-in_err-expect t c =
    passed_on _ c.from_residual.ensures.1 (unopened (SpellsTree (layout_of c.args.content.now)) _ (λ b h. c.in_err-expect.ensures.accepted b refl h))

pub read_enclosed-returns-in_err-value : goal.read_enclosed-returns-in_err-value
read_enclosed-returns-in_err-value t c =
    passed_on _ c.from_residual-in_err-value.ensures.1
    (inner_refused (SpellsTree (layout_of c.args.content.now)) c.in_ok-expect.ensures.taken c.in_err-value.ensures)

pub read_enclosed-returns-in_err-expect-2 : goal.read_enclosed-returns-in_err-expect-2
read_enclosed-returns-in_err-expect-2 t c =
    passed_on _ c.from_residual-in_err-expect-2.ensures.1 (inner_unclosed (SpellsTree (layout_of c.args.content.now)) c.in_ok-expect.ensures.taken _
    c.in_ok-value.ensures (λ b h. c.in_err-expect-2.ensures.accepted b refl h))

pub read_enclosed-returns : goal.read_enclosed-returns
read_enclosed-returns t c =
    inner_read (SpellsTree (layout_of c.args.content.now)) c.in_ok-expect.ensures.taken c.in_ok-value.ensures c.in_ok-expect-2.ensures.taken

-- ---- tuples

pub read_tuple-returns-in_err-expect : goal.read_tuple-returns-in_err-expect
read_tuple-returns-in_err-expect t c =
    let ss = c.args.parts.now.items in
    passed_on _ c.from_residual.ensures.1 (group_unopened part_reads part_spells ss (part_sets ss) (same_parts ss) 40 41 refl refl _ (λ b h. c.in_err-expect.ensures.accepted b refl h))

pub read_tuple-loop-part-init : goal.read_tuple-loop-part-init
read_tuple-loop-part-init t c =
    let none = c.new-items.ensures.items in
    rw none (going_begins _ refl)

pub read_tuple-returns-in_err-separate : goal.read_tuple-returns-in_err-separate
read_tuple-returns-in_err-separate t c =
    let l = c.loop-part in
    let ss = c.deref-part-items.result.now in
    let next = next_part ss l.part-index c.part-item.result (omega arith) c.part-item.is in
    let size : vec_len l.items ≡ length l.items.items = grind (arith, common_steps) in
    rw (← c.deref-part-items.ensures.value) (passed_on _ c.from_residual-in_err-separate.ensures.1
    (group_refused part_reads part_spells ss (part_sets ss) (same_parts ss) 40 41 refl refl c.in_ok-expect.ensures.taken (going_stops (rw next at l.invariant)
    (part_not_led (HaveDistinctNames (layouts_of ss)) part_reads part_spells (length l.items.items == 0) c.part-item.result (drop (l.part-index + 1) ss) _
    (λ b h. c.in_err-separate.ensures.accepted b (rw (c.is_empty.ensures, size) h))))))

pub read_tuple-returns-in_err-read : goal.read_tuple-returns-in_err-read
read_tuple-returns-in_err-read t c =
    let l = c.loop-part in
    let ss = c.deref-part-items.result.now in
    let next = next_part ss l.part-index c.part-item.result (omega arith) c.part-item.is in
    let size : vec_len l.items ≡ length l.items.items = grind (arith, common_steps) in
    rw (← c.deref-part-items.ensures.value) (passed_on _ c.from_residual-in_err-read.ensures.1
    (group_refused part_reads part_spells ss (part_sets ss) (same_parts ss) 40 41 refl refl c.in_ok-expect.ensures.taken (going_stops (rw next at l.invariant)
    (part_refused (HaveDistinctNames (layouts_of ss)) part_reads part_spells (length l.items.items == 0) c.part-item.result (drop (l.part-index + 1) ss)
    (record { taken = rw (c.is_empty.ensures, size) at c.in_ok-separate.ensures.taken; only = λ names b h. c.in_ok-separate.ensures.accepted b (rw (c.is_empty.ensures, size) h) })
    (named_as (distinct_at ss l.part-index c.part-item.result (omega arith) c.part-item.is) (failed c.in_err-read.ensures))))))

pub read_tuple-returns-in_err-push : goal.read_tuple-returns-in_err-push
read_tuple-returns-in_err-push t c = no_memory _ _ c.from_residual-in_err-push.ensures.1 c.in_err-push.ensures.only_out_of_memory

pub read_tuple-loop-part-preserved : goal.read_tuple-loop-part-preserved
read_tuple-loop-part-preserved t c =
    let l = c.loop-part in
    let ss = c.deref-part-items.result.now in
    let next = next_part ss l.part-index c.part-item.result (omega arith) c.part-item.is in
    let size : vec_len l.items ≡ length l.items.items = grind (arith, common_steps) in
    rw (not_none l.items.items c.push.new.items.items c.in_ok-read.field-0 c.in_ok-push.ensures.added) (going_on (rw next at l.invariant) c.in_ok-push.ensures.added
    (part_read (HaveDistinctNames (layouts_of ss)) part_reads part_spells (length l.items.items == 0) c.part-item.result (drop (l.part-index + 1) ss)
    (record { taken = rw (c.is_empty.ensures, size) at c.in_ok-separate.ensures.taken; only = λ names b h. c.in_ok-separate.ensures.accepted b (rw (c.is_empty.ensures, size) h) })
    (named_as (distinct_at ss l.part-index c.part-item.result (omega arith) c.part-item.is) c.in_ok-read.ensures)))

pub read_tuple-returns-in_err-close_parts : goal.read_tuple-returns-in_err-close_parts
read_tuple-returns-in_err-close_parts t c =
    let l = c.loop-part in
    let ss = c.deref-part-items.result.now in
    let none = drop_all l.part-index ss (omega arith) in
    let size : vec_len l.items ≡ length l.items.items = grind (arith, common_steps) in
    rw (← c.deref-part-items.ensures.value) (passed_on _ c.from_residual-in_err-close_parts.ensures.1
    (group_unclosed part_reads part_spells ss (part_sets ss) (same_parts ss) 40 41 refl refl c.in_ok-expect.ensures.taken
    (going_ends (rw none at l.invariant) (parts_end (HaveDistinctNames (layouts_of ss)) part_reads part_spells (length l.items.items == 0) l.rest.now)) _
    (λ b h. c.in_err-close_parts.ensures.accepted b refl (λ e. omega (arith, e)) (rw (c.is_empty-2.ensures, size) h))))

pub read_tuple-returns : goal.read_tuple-returns
read_tuple-returns t c =
    let l = c.loop-part in
    let ss = c.deref-part-items.result.now in
    let none = drop_all l.part-index ss (omega arith) in
    let size : vec_len l.items ≡ length l.items.items = grind (arith, common_steps) in
    let seen : tree (Group l.items) ≡ nodes.Group (row l.items.items) = search (rules, the_lemmas) in
    rw (← c.deref-part-items.ensures.value)
    (group_read part_reads part_spells ss (part_sets ss) (same_parts ss) 40 41 refl refl c.in_ok-expect.ensures.taken
    (going_ends (rw none at l.invariant) (parts_end (HaveDistinctNames (layouts_of ss)) part_reads part_spells (length l.items.items == 0) l.rest.now)) (Group l.items) seen
    (record {
      taken = rw (c.is_empty-2.ensures, size) at c.in_ok-close_parts.ensures.taken;
      only = λ names b h. c.in_ok-close_parts.ensures.accepted b refl (λ e. omega (arith, e)) (rw (c.is_empty-2.ensures, size) h);
    }))

-- ---- structs

pub read_struct-returns-in_err-expect : goal.read_struct-returns-in_err-expect
read_struct-returns-in_err-expect t c =
    let ns = c.args.fields.now.items in
    passed_on _ c.from_residual.ensures.1 (group_unopened field_reads field_spells ns (field_sets ns) (same_fields ns) 123 125 refl refl _ (λ b h. c.in_err-expect.ensures.accepted b refl h))

pub read_struct-loop-field-init : goal.read_struct-loop-field-init
read_struct-loop-field-init t c =
    let none = c.new-items.ensures.items in
    rw none (going_begins _ refl)

pub read_struct-returns-in_err-separate : goal.read_struct-returns-in_err-separate
read_struct-returns-in_err-separate t c =
    let l = c.loop-field in
    let ns = c.deref-field-items.result.now in
    let next = next_part ns l.field-index c.field-item.result (omega arith) c.field-item.is in
    let size : vec_len l.items ≡ length l.items.items = grind (arith, common_steps) in
    rw (← c.deref-field-items.ensures.value) (passed_on _ c.from_residual-in_err-separate.ensures.1
    (group_refused field_reads field_spells ns (field_sets ns) (same_fields ns) 123 125 refl refl c.in_ok-expect.ensures.taken (going_stops (rw next at l.invariant)
    (part_not_led (AreNamed (fields_of ns)) field_reads field_spells (length l.items.items == 0) c.field-item.result (drop (l.field-index + 1) ns) _
    (λ b h. c.in_err-separate.ensures.accepted b (rw (c.is_empty.ensures, size) h))))))

pub read_struct-returns-in_err-take_label : goal.read_struct-returns-in_err-take_label
read_struct-returns-in_err-take_label t c =
    let l = c.loop-field in
    let ns = c.deref-field-items.result.now in
    let n = c.field-item.result in
    let next = next_part ns l.field-index n (omega arith) c.field-item.is in
    let size : vec_len l.items ≡ length l.items.items = grind (arith, common_steps) in
    let own = named_at ns l.field-index n (omega arith) c.field-item.is in
    rw (← c.deref-field-items.ensures.value) (passed_on _ c.from_residual-in_err-take_label.ensures.1
    (group_refused field_reads field_spells ns (field_sets ns) (same_fields ns) 123 125 refl refl c.in_ok-expect.ensures.taken (going_stops (rw next at l.invariant)
    (part_refused (AreNamed (fields_of ns)) field_reads field_spells (length l.items.items == 0) n (drop (l.field-index + 1) ns)
    (record { taken = rw (c.is_empty.ensures, size) at c.in_ok-separate.ensures.taken; only = λ names b h. c.in_ok-separate.ensures.accepted b (rw (c.is_empty.ensures, size) h) })
    (label_missed (string_bytes n.name) _ (λ names b h. c.in_err-take_label.ensures.accepted
    (rw c.as_str-name.ensures.value (own names).0) b (rw c.as_str-name.ensures.value h)))))))

pub read_struct-returns-in_err-read : goal.read_struct-returns-in_err-read
read_struct-returns-in_err-read t c =
    let l = c.loop-field in
    let ns = c.deref-field-items.result.now in
    let n = c.field-item.result in
    let next = next_part ns l.field-index n (omega arith) c.field-item.is in
    let size : vec_len l.items ≡ length l.items.items = grind (arith, common_steps) in
    let own = named_at ns l.field-index n (omega arith) c.field-item.is in
    rw (← c.deref-field-items.ensures.value) (passed_on _ c.from_residual-in_err-read.ensures.1
    (group_refused field_reads field_spells ns (field_sets ns) (same_fields ns) 123 125 refl refl c.in_ok-expect.ensures.taken (going_stops (rw next at l.invariant)
    (part_refused (AreNamed (fields_of ns)) field_reads field_spells (length l.items.items == 0) n (drop (l.field-index + 1) ns)
    (record { taken = rw (c.is_empty.ensures, size) at c.in_ok-separate.ensures.taken; only = λ names b h. c.in_ok-separate.ensures.accepted b (rw (c.is_empty.ensures, size) h) })
    (field_read (string_bytes n.name) (Err _)
    (record { taken = rw c.as_str-name.ensures.value at c.in_ok-take_label.ensures.taken; only = λ names b h. c.in_ok-take_label.ensures.accepted (rw c.as_str-name.ensures.value (own names).0) b (rw c.as_str-name.ensures.value h) })
    (named_as (λ names. (own names).1) (failed c.in_err-read.ensures)))))))

pub read_struct-returns-in_err-push : goal.read_struct-returns-in_err-push
read_struct-returns-in_err-push t c = no_memory _ _ c.from_residual-in_err-push.ensures.1 c.in_err-push.ensures.only_out_of_memory

pub read_struct-loop-field-preserved : goal.read_struct-loop-field-preserved
read_struct-loop-field-preserved t c =
    let l = c.loop-field in
    let ns = c.deref-field-items.result.now in
    let n = c.field-item.result in
    let next = next_part ns l.field-index n (omega arith) c.field-item.is in
    let size : vec_len l.items ≡ length l.items.items = grind (arith, common_steps) in
    let own = named_at ns l.field-index n (omega arith) c.field-item.is in
    rw (not_none l.items.items c.push.new.items.items c.in_ok-read.field-0 c.in_ok-push.ensures.added) (going_on (rw next at l.invariant) c.in_ok-push.ensures.added
    (part_read (AreNamed (fields_of ns)) field_reads field_spells (length l.items.items == 0) n (drop (l.field-index + 1) ns)
    (record { taken = rw (c.is_empty.ensures, size) at c.in_ok-separate.ensures.taken; only = λ names b h. c.in_ok-separate.ensures.accepted b (rw (c.is_empty.ensures, size) h) })
    (field_read (string_bytes n.name) (Ok c.in_ok-read.field-0)
    (record { taken = rw c.as_str-name.ensures.value at c.in_ok-take_label.ensures.taken; only = λ names b h. c.in_ok-take_label.ensures.accepted (rw c.as_str-name.ensures.value (own names).0) b (rw c.as_str-name.ensures.value h) })
    (named_as (λ names. (own names).1) c.in_ok-read.ensures))))

pub read_struct-returns-in_err-close_parts : goal.read_struct-returns-in_err-close_parts
read_struct-returns-in_err-close_parts t c =
    let l = c.loop-field in
    let ns = c.deref-field-items.result.now in
    let none = drop_all l.field-index ns (omega arith) in
    let size : vec_len l.items ≡ length l.items.items = grind (arith, common_steps) in
    rw (← c.deref-field-items.ensures.value) (passed_on _ c.from_residual-in_err-close_parts.ensures.1
    (group_unclosed field_reads field_spells ns (field_sets ns) (same_fields ns) 123 125 refl refl c.in_ok-expect.ensures.taken
    (going_ends (rw none at l.invariant) (parts_end (AreNamed (fields_of ns)) field_reads field_spells (length l.items.items == 0) l.rest.now)) _
    (λ b h. c.in_err-close_parts.ensures.accepted b refl (λ e. omega (arith, e)) (rw (c.is_empty-2.ensures, size) h))))

pub read_struct-returns : goal.read_struct-returns
read_struct-returns t c =
    let l = c.loop-field in
    let ns = c.deref-field-items.result.now in
    let none = drop_all l.field-index ns (omega arith) in
    let size : vec_len l.items ≡ length l.items.items = grind (arith, common_steps) in
    let seen : tree (Group l.items) ≡ nodes.Group (row l.items.items) = search (rules, the_lemmas) in
    rw (← c.deref-field-items.ensures.value)
    (group_read field_reads field_spells ns (field_sets ns) (same_fields ns) 123 125 refl refl c.in_ok-expect.ensures.taken
    (going_ends (rw none at l.invariant) (parts_end (AreNamed (fields_of ns)) field_reads field_spells (length l.items.items == 0) l.rest.now)) (Group l.items) seen
    (record {
      taken = rw (c.is_empty-2.ensures, size) at c.in_ok-close_parts.ensures.taken;
      only = λ names b h. c.in_ok-close_parts.ensures.accepted b refl (λ e. omega (arith, e)) (rw (c.is_empty-2.ensures, size) h);
    }))

-- ---- variants

pub read_content-returns-then-is_unit : goal.read_content-returns-then-is_unit
read_content-returns-then-is_unit t c =
    let v = c.new.result in
    let seen : tree (Group v) ≡ nodes.Group (row v.items) = search (rules, the_lemmas) in
    unit_read (layout_of c.args.content.now) (SpellsTree (layout_of c.args.content.now)) (Group v) (seen ∙ ap (λ vs. nodes.Group (row vs)) c.new.ensures.items)
    (rw (c.is_unit.ensures.unit c.if-is_unit.true) (NoTrees, refl, refl)) (sym c.is_unit.ensures.empty ∙ c.if-is_unit.true)

pub read_content-returns-then-has_brackets : goal.read_content-returns-then-has_brackets
read_content-returns-then-has_brackets t c =
    brackets_read (layout_of c.args.content.now) (SpellsTree (layout_of c.args.content.now)) c.read.result (sym c.is_unit.ensures.empty ∙ c.if-is_unit.false)
    (sym c.has_brackets.ensures ∙ c.if-has_brackets.true) c.read.ensures

pub read_content-returns : goal.read_content-returns
read_content-returns t c =
    let x = layout_of c.args.content.now in
    parentheses_read x (SpellsTree x) c.read_enclosed.result (sym c.has_brackets.ensures ∙ c.if-has_brackets.false) c.read_enclosed.ensures

pub read_variant-returns-in_default : goal.read_variant-returns-in_default
read_variant-returns-in_default t c =
    let word = word_taken c.take_word.ensures.taken c.take_word.ensures.first c.take_word.ensures.whole in
    let index : FirstCalled c.args.variants.now.items c.take_word.result.now c.index_of-index.result = record { found = c.index_of-index.ensures.found; first = c.index_of-index.ensures.first } in
    variant_missed c.args.variants.now.items c.skip_blanks.ensures c.take_word.ensures.taken word index _ (λ low few.
    let far : c.index_of-index.result < length c.deref.result.now = rw c.deref.ensures.value low in
    true≢false (sym ((Decides-ltb c.index_of-index.result (length c.deref.result.now)).1 far) ∙ sym c.get.ensures.lookup.0 ∙ ap is_some c.in_default.is))

pub read_variant-returns-in_default-try_from : goal.read_variant-returns-in_default-try_from
read_variant-returns-in_default-try_from t c =
    let word = word_taken c.take_word.ensures.taken c.take_word.ensures.first c.take_word.ensures.whole in
    let index : FirstCalled c.args.variants.now.items c.take_word.result.now c.index_of-index.result = record { found = c.index_of-index.ensures.found; first = c.index_of-index.ensures.first } in
    variant_missed c.args.variants.now.items c.skip_blanks.ensures c.take_word.ensures.taken word index _ (λ low few. c.in_default-try_from.ensures few)

pub read_variant-returns-in_err-content : goal.read_variant-returns-in_err-content
read_variant-returns-in_err-content t c =
    let word = word_taken c.take_word.ensures.taken c.take_word.ensures.first c.take_word.ensures.whole in
    let index : FirstCalled c.args.variants.now.items c.take_word.result.now c.index_of-index.result = record { found = c.index_of-index.ensures.found; first = c.index_of-index.ensures.first } in
    passed_on _ c.from_residual.ensures.1 (variant_refused c.args.variants.now.items c.skip_blanks.ensures c.take_word.ensures.taken word index c.in-Some.variant.now
    (rw c.deref.ensures.value at c.in-Some.ensures.lookup.1) c.in_err-content.ensures)

pub read_variant-returns-in_err-boxed : goal.read_variant-returns-in_err-boxed
read_variant-returns-in_err-boxed t c = no_memory _ _ c.from_residual-in_err-boxed.ensures.1 c.in_err-boxed.ensures.only_out_of_memory

pub read_variant-returns : goal.read_variant-returns
read_variant-returns t c =
    let ns = c.args.variants.now.items in
    let k = c.index_of-index.result in
    let v = c.in-Some.variant.now in
    let word = word_taken c.take_word.ensures.taken c.take_word.ensures.first c.take_word.ensures.whole in
    let index : FirstCalled ns c.take_word.result.now k = record { found = c.index_of-index.ensures.found; first = c.index_of-index.ensures.first } in
    let here : v ≡ get_or ns k v = rw c.deref.ensures.value at c.in-Some.ensures.lookup.1 in
    let within : k < length c.deref.result.now = grind (arith, common_steps) in
    let low : k < length ns = rw c.deref.ensures.value at within in
    let found = index.found low in
    let one : v ≡ found.0 = c.in-Some.ensures.lookup.3.1 found.0 ∙ ap (λ ys. get_or ys k found.0) c.deref.ensures.value ∙ sym found.1 in
    let same : c.in-Ok.index ≡ k = grind (arith, common_steps) in
    let few : c.in-Ok.index < 2 ^ 32 = grind (arith, common_steps) in
    let held = c.in_ok-boxed.field-0 in
    let seen : tree (Variant c.in-Ok.index held) ≡ nodes.Variant c.in-Ok.index (tree c.in_ok-content.content) = rw (← c.in_ok-boxed.ensures.held) (search (rules, the_lemmas)) in
    variant_read ns c.skip_blanks.ensures c.take_word.ensures.taken word index v here (Variant c.in-Ok.index held) (seen ∙ ap (λ j. nodes.Variant j (tree c.in_ok-content.content)) same) low
    (rw same at few) (ap (λ z. string_bytes z.name) one ∙ found.2) c.in_ok-content.ensures

-- ---- values

pub read-returns-in-Leaf : goal.read-returns-in-Leaf
read-returns-in-Leaf t c =
    let l = c.in-Leaf.leaf in
    rw (c.in-Leaf.is, type_of_leaf l, layout_of_leaf l)
    (record { value = c.read_leaf.ensures.value; spelled = c.read_leaf.ensures.spelled; accepted = λ names. c.read_leaf.ensures.accepted })

pub read-returns-in-Option : goal.read-returns-in-Option
read-returns-in-Option t c = rw (c.in-Option.is, type_of_option c.in-Option.content, layout_of_option c.in-Option.content) (rw c.deref.ensures at c.read_option.ensures)

pub read-returns-in-Seq : goal.read-returns-in-Seq
read-returns-in-Seq t c = rw (c.in-Seq.is, type_of_seq c.in-Seq.element, layout_of_seq c.in-Seq.element) (rw c.deref-in-Seq.ensures at c.read_list.ensures)

pub read-returns-in-Array : goal.read-returns-in-Array
read-returns-in-Array t c =
    rw (c.in-Array.is, type_of_array c.in-Array.element c.in-Array.count, layout_of_array c.in-Array.element c.in-Array.count) (rw c.deref-in-Array.ensures at c.read_array.ensures)

pub read-returns-in-Tuple : goal.read-returns-in-Tuple
read-returns-in-Tuple t c = rw (c.in-Tuple.is, type_of_tuple c.in-Tuple.parts, layout_of_tuple c.in-Tuple.parts) c.read_tuple.ensures

pub read-returns-in-Struct : goal.read-returns-in-Struct
read-returns-in-Struct t c = rw (c.in-Struct.is, type_of_struct c.in-Struct.fields, layout_of_struct c.in-Struct.fields) c.read_struct.ensures

pub read-returns-in-Enum : goal.read-returns-in-Enum
read-returns-in-Enum t c = rw (c.in-Enum.is, type_of_enum c.in-Enum.variants, layout_of_enum c.in-Enum.variants) c.read_variant.ensures

-- ---- maps

pub read-returns-in_err-expect-in-Map : goal.read-returns-in_err-expect-in-Map
read-returns-in_err-expect-in-Map t c =
    let k = c.in-Map.key in
    let v = c.in-Map.value in
    rw (c.in-Map.is, type_of_map k v, layout_of_map k v)
    (passed_on _ c.from_residual.ensures.1 (list_unopened (entry_spells k.value v.value) 123 125 refl _ (λ b h. c.in_err-expect-in-Map.ensures.accepted b refl h)))

pub read-loop-init : goal.read-loop-init
read-loop-init t c = record { going = going_begins _ c.new-items.ensures.items; short = omega arith }

pub read-returns-then-take : goal.read-returns-then-take
read-returns-then-take t c =
    let k = c.in-Map.key in
    let v = c.in-Map.value in
    let x = k.value in
    let y = v.value in
    let items = c.loop.items in
    let seen : tree (Seq items) ≡ nodes.Seq (row items.items) = search (rules, the_lemmas) in
    rw (c.in-Map.is, type_of_map k v, layout_of_map k v)
    (list_read (entry_spells x y) 123 125 refl (Seq items) seen (omega (arith, items.small)) c.in_ok-expect-in-Map.ensures.taken
    (going_ends c.loop.invariant.going (items_none 125 (entry_names x y) (entry_reads x y) (entry_spells x y) (inr refl)
    (λ names. opens (entry_spells x y) (λ u a r h. entry_opens (layout_of x) (SpellsTree (layout_of y)) u a r names.0 h)) (took_sign 125 refl (c.take.ensures.taken c.if-take.true)))))

pub read-returns-in_err-first-in-Map : goal.read-returns-in_err-first-in-Map
read-returns-in_err-first-in-Map t c =
    let k = c.in-Map.key in
    let v = c.in-Map.value in
    let x = k.value in
    let y = v.value in
    rw (c.in-Map.is, type_of_map k v, layout_of_map k v) (passed_on _ c.from_residual-in_err-first-in-Map.ensures.1
    (list_refused (entry_spells x y) 123 125 refl c.in_ok-expect-in-Map.ensures.taken (going_stops c.loop.invariant.going
    (item_refused 125 (entry_names x y) (entry_reads x y) (entry_spells x y) (inr refl) (c.take.ensures.none c.if-take.false refl)
    (key_refused (SpellsTree (layout_of x)) (SpellsTree (layout_of y)) (rw (c.take.ensures.left c.if-take.false, c.deref-in-loop.ensures) at c.in_err-first-in-Map.ensures))))))

pub read-returns-in_err-take_arrow-in-Map : goal.read-returns-in_err-take_arrow-in-Map
read-returns-in_err-take_arrow-in-Map t c =
    let k = c.in-Map.key in
    let v = c.in-Map.value in
    let x = k.value in
    let y = v.value in
    rw (c.in-Map.is, type_of_map k v, layout_of_map k v) (passed_on _ c.from_residual-in_err-take_arrow-in-Map.ensures.1
    (list_refused (entry_spells x y) 123 125 refl c.in_ok-expect-in-Map.ensures.taken (going_stops c.loop.invariant.going
    (item_refused 125 (entry_names x y) (entry_reads x y) (entry_spells x y) (inr refl) (c.take.ensures.none c.if-take.false refl)
    (arrow_missed (SpellsTree (layout_of x)) (SpellsTree (layout_of y)) (rw (c.take.ensures.left c.if-take.false, c.deref-in-loop.ensures) at c.in_ok-first-in-Map.ensures) _ (λ b h. c.in_err-take_arrow-in-Map.ensures.accepted b h))))))

pub read-returns-in_err-second-in-Map : goal.read-returns-in_err-second-in-Map
read-returns-in_err-second-in-Map t c =
    let k = c.in-Map.key in
    let v = c.in-Map.value in
    let x = k.value in
    let y = v.value in
    rw (c.in-Map.is, type_of_map k v, layout_of_map k v) (passed_on _ c.from_residual-in_err-second-in-Map.ensures.1
    (list_refused (entry_spells x y) 123 125 refl c.in_ok-expect-in-Map.ensures.taken (going_stops c.loop.invariant.going
    (item_refused 125 (entry_names x y) (entry_reads x y) (entry_spells x y) (inr refl) (c.take.ensures.none c.if-take.false refl)
    (value_refused (SpellsTree (layout_of x)) (SpellsTree (layout_of y)) (rw (c.take.ensures.left c.if-take.false, c.deref-in-loop.ensures) at c.in_ok-first-in-Map.ensures)
    (record { taken = c.in_ok-take_arrow-in-Map.ensures.taken; only = λ names b h. c.in_ok-take_arrow-in-Map.ensures.accepted b h }) (rw c.deref-in-loop-2.ensures at c.in_err-second-in-Map.ensures))))))

pub read-returns-in_err-entry-in-Map : goal.read-returns-in_err-entry-in-Map
read-returns-in_err-entry-in-Map t c = no_memory _ _ c.from_residual-in_err-entry-in-Map.ensures.1 c.in_err-entry-in-Map.ensures.only_out_of_memory

pub read-returns-in_err-push-in-Map : goal.read-returns-in_err-push-in-Map
read-returns-in_err-push-in-Map t c = no_memory _ _ c.from_residual-in_err-push-in-Map.ensures.1 c.in_err-push-in-Map.ensures.only_out_of_memory

pub read-loop-preserved : goal.read-loop-preserved
read-loop-preserved t c =
    let k = c.in-Map.key in
    let v = c.in-Map.value in
    let x = k.value in
    let y = v.value in
    let one : ReadsTree (entry_names x y) (entry_reads x y) (entry_spells x y) c.loop.rest.now (Ok c.in_ok-entry-in-Map.field-0) c.read-in-loop.new.rest.now = entry_read (SpellsTree (layout_of x)) (SpellsTree (layout_of y))
    (rw (c.take.ensures.left c.if-take.false, c.deref-in-loop.ensures) at c.in_ok-first-in-Map.ensures)
    (record { taken = c.in_ok-take_arrow-in-Map.ensures.taken; only = λ names b h. c.in_ok-take_arrow-in-Map.ensures.accepted b h }) c.in_ok-entry-in-Map.field-0 c.in_ok-entry-in-Map.ensures.both (rw c.deref-in-loop-2.ensures at c.in_ok-second-in-Map.ensures) in
    let comma = c.take-in-loop.ensures.taken c.if-not-take.false in
    record {
      going = going_on c.loop.invariant.going c.in_ok-push-in-Map.ensures.added
          (item_comma 125 (entry_names x y) (entry_reads x y) (entry_spells x y) (inr refl) (c.take.ensures.none c.if-take.false refl) one (took_sign 44 refl comma));
      short =
          let le = takes_le (entry_spells x y (tree c.in_ok-entry-in-Map.field-0)) c.loop.rest.now c.read-in-loop.new.rest.now one.spelled in
          let less = takes_less 44 c.read-in-loop.new.rest.now c.take-in-loop.new.rest.now comma in
          omega (arith, c.loop.invariant.short, le, less);
    }

pub read-returns-in_err-expect-in-Map-2 : goal.read-returns-in_err-expect-in-Map-2
read-returns-in_err-expect-in-Map-2 t c =
    let k = c.in-Map.key in
    let v = c.in-Map.value in
    let x = k.value in
    let y = v.value in
    let left = c.take-in-loop.ensures.left c.if-not-take.true in
    rw (c.in-Map.is, type_of_map k v, layout_of_map k v) (passed_on _ c.from_residual-in_err-expect-in-Map-2.ensures.1
    (list_refused (entry_spells x y) 123 125 refl c.in_ok-expect-in-Map.ensures.taken (going_stops c.loop.invariant.going
    (item_unclosed 125 (entry_names x y) (entry_reads x y) (entry_spells x y) (inr refl) (c.take.ensures.none c.if-take.false refl) (entry_read (SpellsTree (layout_of x)) (SpellsTree (layout_of y))
    (rw (c.take.ensures.left c.if-take.false, c.deref-in-loop.ensures) at c.in_ok-first-in-Map.ensures)
    (record { taken = c.in_ok-take_arrow-in-Map.ensures.taken; only = λ names b h. c.in_ok-take_arrow-in-Map.ensures.accepted b h }) c.in_ok-entry-in-Map.field-0 c.in_ok-entry-in-Map.ensures.both (rw c.deref-in-loop-2.ensures at c.in_ok-second-in-Map.ensures))
    (c.take-in-loop.ensures.none c.if-not-take.true refl) _ (λ b h. c.in_err-expect-in-Map-2.ensures.accepted b refl (rw left h))))))

pub read-returns-then-not-take : goal.read-returns-then-not-take
read-returns-then-not-take t c =
    let k = c.in-Map.key in
    let v = c.in-Map.value in
    let x = k.value in
    let y = v.value in
    let left = c.take-in-loop.ensures.left c.if-not-take.true in
    let items = c.push.new.items in
    let seen : tree (Seq items) ≡ nodes.Seq (row items.items) = search (rules, the_lemmas) in
    rw (c.in-Map.is, type_of_map k v, layout_of_map k v)
    (list_read (entry_spells x y) 123 125 refl (Seq items) seen (omega (arith, items.small)) c.in_ok-expect-in-Map.ensures.taken
    (going_last c.loop.invariant.going c.in_ok-push-in-Map.ensures.added
    (item_last 125 (entry_names x y) (entry_reads x y) (entry_spells x y) (inr refl) (c.take.ensures.none c.if-take.false refl) (entry_read (SpellsTree (layout_of x)) (SpellsTree (layout_of y))
    (rw (c.take.ensures.left c.if-take.false, c.deref-in-loop.ensures) at c.in_ok-first-in-Map.ensures)
    (record { taken = c.in_ok-take_arrow-in-Map.ensures.taken; only = λ names b h. c.in_ok-take_arrow-in-Map.ensures.accepted b h }) c.in_ok-entry-in-Map.field-0 c.in_ok-entry-in-Map.ensures.both (rw c.deref-in-loop-2.ensures at c.in_ok-second-in-Map.ensures))
    (c.take-in-loop.ensures.none c.if-not-take.true refl) (took_sign 125 refl (rw left at c.in_ok-expect-in-Map-2.ensures.taken)))))

pub read-returns-after-loop : goal.read-returns-after-loop
read-returns-after-loop t c =
    let k = c.in-Map.key in
    let v = c.in-Map.value in
    let x = k.value in
    let y = v.value in
    let none : c.loop.rest.now ≡ [] = is_empty c.loop.rest.now (omega (arith, c.loop.invariant.short, c.loop-test.false)) in
    rw (c.in-Map.is, type_of_map k v, layout_of_map k v)
    (list_refused (entry_spells x y) 123 125 refl c.in_ok-expect-in-Map.ensures.taken (going_stops c.loop.invariant.going
    (items_cut 125 (entry_names x y) (entry_reads x y) (entry_spells x y) (inr refl) _
    (λ names. opens (entry_spells x y) (λ u a r h. entry_opens (layout_of x) (SpellsTree (layout_of y)) u a r names.0 h)) none)))
