-- Reading one node: what holds of a call that fails.
use Rattle.std.proofs.Common.{◌≡◌, Result, IsErrAnd}
use Rattle.postcard_wire.specs.declared.error.Error.{Error}
use Rattle.postcard_de_flavors.specs.declared.flavor.Flavor.{Ghosts}
use Rattle.postcard_de_nodes.specs.Refuses.{Refuses}
use Rattle.postcard_de_nodes.specs.Nodes.{Node, ReadsNode}
use Rattle.postcard_de_nodes.specs.ReadLemmas.{Excludes, refused, refusal, is_refusal}

module _ {S M O : Type 0} (F : Ghosts S M O) {X V : Type 0} {node : Node X V} {old new : S} {e : Error} where
  -- A call with a reason to fail to read the node may return its error.
  pub node_refused : Excludes node.other node.wants node.bad node.spelled node.reads →
      Refuses F node.wants node.bad old e new → F.may_leave old new →
      ReadsNode F node old (refusal V e) new
  node_refused excludes why l =
      record { reads = refused F.lawful excludes why l; refused = why }

  -- The same of the error that `?` passes on.
  pub node_passes_on : {r : Result V Error} → IsErrAnd r (λ x. x ≡ e) →
      Excludes node.other node.wants node.bad node.spelled node.reads →
      Refuses F node.wants node.bad old e new → F.may_leave old new → ReadsNode F node old r new
  node_passes_on {r} is excludes why l = rw (is_refusal r e is) (node_refused excludes why l)
