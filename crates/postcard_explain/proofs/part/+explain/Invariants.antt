-- Why the functions end: how deep types are nested, and the order of the functions at one depth. The lines so far explain the items or
-- parts so far. Their bytes are those before `rest`.
use Rattle.std.proofs.Common.{◌≡◌, ℕ, ◌+◌, ◌*◌, ◌-◌, ◌≤◌, List, ◌++◌, take}
use Rattle.postcard_schema.specs.Bounds.{depth}
use Rattle.postcard_schema.specs.Meaning.{type_of}
use Rattle.postcard_value.specs.Fronts.{SpellsEach}
use Rattle.postcard_explain.specs.Explained.{ExplainsElements, ExplainsParts}
use Rattle.postcard_explain.specs.Parts.{item_of, item_type, named, parts_of}
use Rattle.postcard_explain.specs.Walking.{Adds}
use Rattle.postcard_explain.proofs.PartLemmas.{row_depth}
use Rattle.postcard_explain.proofs.part.+explain.Given as goal

abbrev pub decreases-explain_part : goal.decreases-explain_part
decreases-explain_part l = 8 * depth (type_of l.schema.now)

abbrev pub decreases-explain_option : goal.decreases-explain_option
decreases-explain_option l = 8 * depth (type_of l.content.now) + 1

abbrev pub decreases-explain_variant : goal.decreases-explain_variant
decreases-explain_variant l = 8 * row_depth (named l.variants.now.items) + 1

abbrev pub decreases-explain_row : goal.decreases-explain_row
decreases-explain_row l = 8 * row_depth (parts_of l.row) + 1

abbrev pub decreases-explain_item : goal.decreases-explain_item
decreases-explain_item l = 8 * depth (item_type (item_of l.item)) + 1

abbrev pub decreases-explain_more : goal.decreases-explain_more
decreases-explain_more l = 8 * depth (item_type (item_of l.item)) + 2

abbrev pub decreases-explain_elements : goal.decreases-explain_elements
decreases-explain_elements l = 8 * depth (item_type (item_of l.item)) + 3

abbrev pub decreases-explain_list : goal.decreases-explain_list
decreases-explain_list l = 8 * depth (item_type (item_of l.item)) + 4

abbrev pub invariant-explain_elements-loop-i : goal.invariant-explain_elements-loop-i
invariant-explain_elements-loop-i l = Adds (ExplainsElements l.most l.depth (item_of l.item) l.i) l.fn.walk.lines.items l.bytes l.walk.lines.items l.rest

abbrev pub invariant-explain_more-loop-i : goal.invariant-explain_more-loop-i
invariant-explain_more-loop-i l =
    (done : List ℕ) × SpellsEach (item_type (item_of l.item)) (l.i - l.most) done × (l.bytes ≡ done ++ l.rest) × (l.walk.lines.items ≡ l.fn.walk.lines.items)
    × (l.i - l.most ≤ l.count - l.most)

abbrev pub invariant-explain_row-loop-i : goal.invariant-explain_row-loop-i
invariant-explain_row-loop-i l = Adds (ExplainsParts l.most l.depth (take l.i (parts_of l.row))) l.initial.walk.lines.items l.bytes l.walk.lines.items l.rest
