-- The values so far are the only ones of the items, parts and fields so far.
use Rattle.std.proofs.Common.{map, take}
use Rattle.postcard_wire.specs.Tree.{trees}
use Rattle.postcard_schema.specs.Meaning.{type_of}
use Rattle.postcard_value.specs.Tree.{tree}
use Rattle.postcard_value_text.specs.Accepted.{HasDistinctNames}
use Rattle.postcard_value_text.specs.Layout.{layout_of}
use Rattle.serde_json.specs.View.{view, items_view}
use Rattle.postcard_value_json_read.specs.Reading.{AreItems}
use Rattle.postcard_value_json_read.specs.Accepted.{IsEntryReading, IsOnly, IsReading}
use Rattle.postcard_value_json_read.proofs.Groups.{AreFieldsOnly, ArePartsOnly}
use Rattle.postcard_value_json_read.proofs.read.+read.Given as goal

abbrev pub invariant-read_items-loop-i : goal.invariant-read_items-loop-i
invariant-read_items-loop-i l = AreItems (IsOnly (HasDistinctNames (layout_of l.element)) (IsReading (type_of l.element) (layout_of l.element))) (trees (map tree l.values.items)) (items_view (take l.i l.item-items))

abbrev pub invariant-read-loop-i : goal.invariant-read-loop-i
invariant-read-loop-i l = let k = l.key.value in let v = l.value.value in
    AreItems (IsOnly (HasDistinctNames (layout_of k) × HasDistinctNames (layout_of v)) (IsEntryReading (type_of k) (layout_of k) (type_of v) (layout_of v)))
    (trees (map tree l.entries.items)) (items_view (take l.i l.item-items))

abbrev pub invariant-read_parts-loop-i : goal.invariant-read_parts-loop-i
invariant-read_parts-loop-i l = ArePartsOnly (take l.i l.part-items) l.values.items (take l.i l.items.items)

abbrev pub invariant-read_fields-loop-field : goal.invariant-read_fields-loop-field
invariant-read_fields-loop-field l = AreFieldsOnly (take l.field-index l.field-items) l.values.items (view l.json)
