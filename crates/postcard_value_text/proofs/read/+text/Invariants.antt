-- Reading the whole ends as reading the remaining text does. If that succeeds, the values read so far come first.
use Rattle.std.proofs.Common.{◌+◌, ◌≤◌, true, drop, length}
use Rattle.std.specs.Bool.{◌==◌}
use Rattle.postcard_value_text.specs.{AreNamed, HasDistinctNames, HaveDistinctNames, SpellsTree, fields_of, layout_of, layouts_of, reads, type_of}
use Rattle.postcard_value_text.proofs.Groups.{entry_names, entry_reads, entry_spells, field_reads, field_spells, part_reads, part_spells}
use Rattle.postcard_value_text.proofs.Items.{ReadsRest}
use Rattle.postcard_value_text.proofs.Parts.{ReadsParts}
use Rattle.postcard_value_text.proofs.Readers.{Going}
use Rattle.postcard_value_text.proofs.read.+text.Given as goal

abbrev pub invariant-read_items-loop : goal.invariant-read_items-loop
invariant-read_items-loop l =
    let reading = ReadsRest 93 (HasDistinctNames (layout_of l.element)) (reads (type_of l.element)) (SpellsTree (layout_of l.element)) in
    record { going : Going (reading l.initial.rest.now) (reading l.rest.now) l.items.items; short : length l.rest.now + l.counter ≤ length l.initial.rest.now }

abbrev pub invariant-read-loop : goal.invariant-read-loop
invariant-read-loop l =
    let x = l.key.value in
    let y = l.value.value in
    let reading = ReadsRest 125 (entry_names x y) (entry_reads x y) (entry_spells x y) in
    record { going : Going (reading l.initial.rest.now) (reading l.rest.now) l.items.items; short : length l.rest.now + l.counter ≤ length l.initial.rest.now }

abbrev pub invariant-read_tuple-loop-part : goal.invariant-read_tuple-loop-part
invariant-read_tuple-loop-part l =
    let reading = ReadsParts (HaveDistinctNames (layouts_of l.part-items)) part_reads part_spells in
    Going (reading true l.part-items l.initial.rest.now) (reading (length l.items.items == 0) (drop l.part-index l.part-items) l.rest.now) l.items.items

abbrev pub invariant-read_struct-loop-field : goal.invariant-read_struct-loop-field
invariant-read_struct-loop-field l =
    let reading = ReadsParts (AreNamed (fields_of l.field-items)) field_reads field_spells in
    Going (reading true l.field-items l.initial.rest.now) (reading (length l.items.items == 0) (drop l.field-index l.field-items) l.rest.now) l.items.items
