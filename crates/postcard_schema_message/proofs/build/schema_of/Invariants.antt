-- The nodes that are left, and then those of the row, are all nodes.
use Rattle.std.proofs.Common.{◌≡◌, ◌++◌, vec_len}
use Rattle.postcard_schema_message.specs.Nodes.{node_views, preorder_all}
use Rattle.postcard_schema_message.specs.Building.{AreBuilt, forest}
use Rattle.postcard_schema_message.proofs.build.schema_of.Given as goal

abbrev pub invariant-loop-node : goal.invariant-loop-node
invariant-loop-node l = record {
  whole : node_views l.nodes.items ++ preorder_all (forest l.row.items) ≡ node_views l.fn.nodes.items;
  built : AreBuilt l.row.items;
}

abbrev pub decreases-loop-node : goal.decreases-loop-node
decreases-loop-node l = vec_len l.nodes
