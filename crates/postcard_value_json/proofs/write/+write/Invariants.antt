-- The JSON so far is that of the elements or parts before the loop's place.
use Rattle.std.proofs.Common.{◌≡◌, map, take, Some}
use Rattle.postcard_wire.specs.Tree.{trees}
use Rattle.postcard_value.specs.Tree.{tree}
use Rattle.postcard_value_text.specs.Layout.{layout_of}
use Rattle.serde_json.specs.Data.{no_members}
use Rattle.serde_json.specs.View.{view, members_view}
use Rattle.postcard_value_json.specs.Written.{json_of, all_json, each_json, entry_json, members_json}
use Rattle.postcard_value_json.proofs.Rows.{writer_of, field_writer}
use Rattle.postcard_value_json.proofs.write.+write.Given as goal

abbrev pub invariant-write_list-loop-item : goal.invariant-write_list-loop-item
invariant-write_list-loop-item l = all_json (json_of (layout_of l.element)) (trees (map tree (take l.item-index l.item-items))) ≡ Some (map view l.all.items)

abbrev pub invariant-write_map-loop-item : goal.invariant-write_map-loop-item
invariant-write_map-loop-item l = all_json (entry_json (json_of (layout_of l.key)) (json_of (layout_of l.content))) (trees (map tree (take l.item-index l.item-items))) ≡ Some (map view l.all.items)

abbrev pub invariant-write_tuple-loop-i : goal.invariant-write_tuple-loop-i
invariant-write_tuple-loop-i l = each_json (map writer_of (take l.i l.parts.items)) (trees (map tree (take l.i l.item-items))) ≡ Some (map view l.all.items)

abbrev pub invariant-write_struct-loop-i : goal.invariant-write_struct-loop-i
invariant-write_struct-loop-i l = members_json (map field_writer (take l.i l.fields.items)) (trees (map tree (take l.i l.item-items))) no_members ≡ Some (members_view l.members.entries)
