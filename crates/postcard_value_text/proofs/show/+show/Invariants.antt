-- The parts so far are written.
use Rattle.std.proofs.Common.{codes, map, take, Ok, Some}
use Rattle.std.specs.Fmt.{◌++?◌, DisplaysOnOk}
use Rattle.postcard_value_text.specs.{fields_of, layout_of, layouts_of, tree, trees}
use Rattle.postcard_value_text.specs.Shown.{text, texts, field_texts, entry_text, joined, all_by, each_by}
use Rattle.postcard_value_text.proofs.show.+show.Given as goal

abbrev pub invariant-show_list-loop-i : goal.invariant-show_list-loop-i
invariant-show_list-loop-i g l = DisplaysOnOk g.W.Write.write_str_gives l.fn.f (Ok tt) (Some (codes "[") ++? joined (codes ", ") (all_by (text (layout_of l.element)) (trees (map tree (take l.i l.item-items))))) l.f

abbrev pub invariant-show_map-loop-i : goal.invariant-show_map-loop-i
invariant-show_map-loop-i g l = DisplaysOnOk g.W.Write.write_str_gives l.fn.f (Ok tt)
    (Some (codes "{") ++? joined (codes ", ") (all_by (entry_text (text (layout_of l.key)) (text (layout_of l.content))) (trees (map tree (take l.i l.item-items))))) l.f

abbrev pub invariant-show_tuple-loop-i : goal.invariant-show_tuple-loop-i
invariant-show_tuple-loop-i g l = DisplaysOnOk g.W.Write.write_str_gives l.fn.f (Ok tt) (Some (codes "(") ++? joined (codes ", ") (each_by (texts (layouts_of l.parts.items)) (trees (map tree (take l.i l.item-items))))) l.f

abbrev pub invariant-show_struct-loop-i : goal.invariant-show_struct-loop-i
invariant-show_struct-loop-i g l = DisplaysOnOk g.W.Write.write_str_gives l.fn.f (Ok tt) (Some (codes "{") ++? joined (codes ", ") (each_by (field_texts (fields_of l.fields.items)) (trees (map tree (take l.i l.item-items))))) l.f
