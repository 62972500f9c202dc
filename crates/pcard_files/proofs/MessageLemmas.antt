-- A message that begins with nodes: whether bytes follow them, and why the nodes give no schema.
use Rattle.std.proofs.Common.{◌≡◌, ℕ, true, false, List, [], ◌∷◌, Vec, Global, length, refl, sym, subst, ◌∙◌, ap, true≢false}
use Rattle.std.specs.Prelude.{◌==◌, ◌≢◌}
use Rattle.std.proofs.Math.Dec.{eqb-suc-zero}
use Rattle.postcard_schema_message.specs.Bounded.{Refuses}
use Rattle.postcard_schema_message.specs.Nodes.{node_views}
use Rattle.postcard_schema_message.specs.declared.error.Problem.{Problem}
use Rattle.postcard_schema_message.specs.declared.error.Problem.TheVariants.{OutOfMemory}
use Rattle.postcard_schema_message.specs.declared.node.Node.{Node}
use Rattle.pcard_files.specs.SchemaFile.{BeginsWith, IsNoMessage}
use Rattle.pcard_files.specs.declared.fault.SchemaFault.{SchemaFault}
use Rattle.pcard_files.specs.declared.fault.SchemaFault.TheVariants.{Nodes}

pub none_left : (rest : List ℕ) → (length rest == 0) ≡ true → rest ≡ []
none_left [] none = refl
none_left (b ∷ rest) none = absurd (true≢false (sym none ∙ eqb-suc-zero (length rest)))

pub some_left : (rest : List ℕ) → (length rest == 0) ≡ false → rest ≢ []
some_left rest some none = true≢false (sym (ap (λ bytes. length bytes == 0) none) ∙ some)

-- If nothing follows the nodes, and they give no schema by a problem, the fault of the problem is one of the bytes.
pub nodes_refused : (bytes : List ℕ) (nodes : Vec Node Global) (rest : List ℕ) (problem : Problem) (fault : SchemaFault) → BeginsWith bytes nodes rest
    → (length rest == 0) ≡ true → (fault ≡ Nodes problem) × (problem ≢ OutOfMemory) → Refuses problem (node_views nodes.items) → IsNoMessage bytes fault
nodes_refused bytes nodes rest problem fault begins none (is, other) refused =
    subst (IsNoMessage bytes) (sym is) (nodes, subst (BeginsWith bytes nodes) (none_left rest none) begins, other, refused)
