-- The nodes so far, and then those of the parts from the loop's place on, are those that there were and those of all parts.
use Rattle.std.proofs.Common.{◌≡◌, ◌++◌, drop, map}
use Rattle.postcard_schema.specs.Meaning.{contents}
use Rattle.postcard_schema.specs.Views.{view}
use Rattle.postcard_schema_message.specs.Nodes.{node_views, preorder_all}
use Rattle.postcard_schema_message.proofs.nodes.+push_type.Given as goal

abbrev pub invariant-push_parts-loop-part : goal.invariant-push_parts-loop-part
invariant-push_parts-loop-part l = node_views l.nodes.items ++ preorder_all (map view (drop l.part-index l.part-items))
    ≡ node_views l.fn.nodes.items ++ preorder_all (map view l.part-items)

abbrev pub invariant-push_contents-loop-part : goal.invariant-push_contents-loop-part
invariant-push_contents-loop-part l = node_views l.nodes.items ++ preorder_all (map view (contents (drop l.part-index l.part-items)))
    ≡ node_views l.fn.nodes.items ++ preorder_all (map view (contents l.part-items))
