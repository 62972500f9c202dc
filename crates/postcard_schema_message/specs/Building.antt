-- How a schema is built: from the last node to the first, in a row of the schemas so far.
use Rattle.std.specs.Prelude.{◌≡◌, ◌<◌, ◌≤◌, List, [], ◌∷◌, ◌++◌, length, map, Result, IfErr, IfOk, OnOk}
use Rattle.postcard_schema.specs.Views.{View, view}
use Rattle.postcard_schema_message.specs.declared.build.Built.{Built}
use Rattle.postcard_schema_message.specs.declared.build.Parts.{Parts}
use Rattle.postcard_schema_message.specs.declared.error.Problem.{Problem}
use Rattle.postcard_schema_message.specs.declared.error.Problem.TheVariants.{Malformed, TooDeep, ElementWithoutBytes, OutOfMemory}
use Rattle.postcard_schema_message.specs.Nodes.{NodeView, arity, preorder_all}
use Rattle.postcard_schema_message.specs.Bounded.{HasEmptyElements, IsDeep, IsFull, view_depth}
use Rattle.postcard_schema_message.specs.Making.{Each, greatest}

-- The schema has this depth, and is within both bounds.
pub record IsBuilt (b : Built) : Type 0 where
  pub deep : b.depth ≡ view_depth (view b.schema)
  pub low : b.depth ≤ 384
  pub full : IsFull (view b.schema)

abbrev pub AreBuilt : List Built → Type 0
AreBuilt [] = Unit {0}
AreBuilt (b ∷ bs) = IsBuilt b × AreBuilt bs

-- The views of a row, of which the first in the message is at the end.
abbrev pub forest : List Built → List View
forest [] = []
forest (b ∷ bs) = forest bs ++ view b.schema ∷ []

-- The same of the parts of one schema.
pub record AreParts (p : Parts) : Type 0 where
  pub deep : p.depth ≡ greatest (map view p.schemas.items)
  pub low : p.depth ≤ 384
  pub full : Each IsFull (map view p.schemas.items)

-- With the node n before the nodes of this row, there is a schema of P at the front.
abbrev pub BeginsWith : (View → Type 0) → NodeView → List View → Type 0
BeginsWith P n vs = (v : View) × (after : List View) × (n ∷ preorder_all vs ≡ preorder_all (v ∷ after)) × P v

-- What each problem says of a node before a row.
abbrev pub CannotBuild : Problem → NodeView → List View → Type 0
CannotBuild Malformed n vs = length vs < arity n
CannotBuild TooDeep n vs = BeginsWith IsDeep n vs
CannotBuild ElementWithoutBytes n vs = BeginsWith HasEmptyElements n vs
CannotBuild OutOfMemory n vs = Unit {0}

-- A call that builds the schema of the node n, whose parts it takes from the end of the row.
pub record Roots (n : NodeView) (old : List Built) (result : Result Built Problem) (new : List Built) : Type 0 where
  pub built : IfOk result IsBuilt
  pub same : IfOk result (λ b. preorder_all (view b.schema ∷ forest new) ≡ n ∷ preorder_all (forest old))
  pub kept : OnOk result (AreBuilt new)
  pub refused : IfErr result (λ problem. CannotBuild problem n (forest old))
