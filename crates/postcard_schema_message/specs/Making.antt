-- The schema of a node and its parts.
use Rattle.std.specs.Prelude.{◌≡◌, ℕ, ◌⊎◌, List, [], ◌∷◌, Result, IfErr, IfOk, max}
use Rattle.postcard_schema.specs.declared.schema.Schema.{Schema}
use Rattle.postcard_schema.specs.Views.{View, leaf_view, option_view, seq_view, map_view, array_view, tuple_view, struct_view, enum_view, no_views, named_of, view, views_of}
use Rattle.postcard_schema_message.specs.declared.error.Problem.{Problem}
use Rattle.postcard_schema_message.specs.declared.error.Problem.TheVariants.{ElementWithoutBytes, OutOfMemory}
use Rattle.postcard_schema_message.specs.Nodes.{NodeView, leaf_node, option_node, seq_node, map_node, array_node, tuple_node, struct_node, enum_node}
use Rattle.postcard_schema_message.specs.Bounded.{HasEmptyElements, IsFull, view_depth}

-- Each name with what has it, as long as both lists go on.
abbrev pub paired : List (List ℕ) → List View → List (List ℕ × View)
paired [] vs = []
paired (n ∷ ns) [] = []
paired (n ∷ ns) (v ∷ vs) = (n, v) ∷ paired ns vs

-- The view with this node and these parts. With too few parts it is the unit.
abbrev pub make : NodeView → List View → View
make (leaf_node l) vs = leaf_view l
make option_node [] = tuple_view no_views
make option_node (v ∷ vs) = option_view v
make seq_node [] = tuple_view no_views
make seq_node (v ∷ vs) = seq_view v
make map_node [] = tuple_view no_views
make map_node (k ∷ []) = tuple_view no_views
make map_node (k ∷ v ∷ vs) = map_view k v
make (array_node n) [] = tuple_view no_views
make (array_node n) (v ∷ vs) = array_view n v
make (tuple_node n) vs = tuple_view (views_of vs)
make (struct_node names) vs = struct_view (named_of (paired names vs))
make (enum_node names) vs = enum_view (named_of (paired names vs))

-- P holds of each view.
abbrev pub Each : (View → Type 0) → List View → Type 0
Each P [] = Unit {0}
Each P (v ∷ vs) = P v × Each P vs

-- The depth of the deepest view.
abbrev pub greatest : List View → ℕ
greatest [] = 0
greatest (v ∷ vs) = max (view_depth v) (greatest vs)

-- A call that makes the schema of a node and its parts.
pub record IsMade (n : NodeView) (parts : List View) (result : Result Schema Problem) : Type 0 where
  pub made : IfOk result (λ schema. view schema ≡ make n parts)
  pub full : Each IsFull parts → IfOk result (λ schema. IsFull (make n parts))
  pub refused : IfErr result (λ problem. (problem ≡ OutOfMemory) ⊎ ((problem ≡ ElementWithoutBytes) × HasEmptyElements (make n parts)))
