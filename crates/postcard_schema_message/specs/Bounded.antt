-- Which schemas are built: those within the bounds that types of expressions have. And why a list of nodes gives none.
use Rattle.std.specs.Prelude.{◌≡◌, ℕ, ◌<◌, ◌≤◌, false, List, ◌∷◌, ◌++◌}
use Rattle.postcard_schema.specs.Bounds.{ElementsHaveBytes, depth}
use Rattle.postcard_schema.specs.Meaning.{entry_of, has_bytes}
use Rattle.postcard_schema.specs.Views.{View, leaf_view, option_view, seq_view, map_view, array_view, tuple_view, struct_view, enum_view, message_type}
use Rattle.postcard_schema_message.specs.declared.error.Problem.{Problem}
use Rattle.postcard_schema_message.specs.declared.error.Problem.TheVariants.{Malformed, TooDeep, ElementWithoutBytes, OutOfMemory}
use Rattle.postcard_schema_message.specs.Nodes.{NodeView, preorder, preorder_all}

-- How deep the types of a view are nested.
abbrev pub view_depth : View → ℕ
view_depth v = depth (message_type v)

-- Everywhere in the view, elements have bytes.
abbrev pub IsFull : View → Type 0
IsFull v = ElementsHaveBytes (message_type v)

-- The view is within both bounds.
pub record IsBounded (v : View) : Type 0 where
  pub full : IsFull v
  pub low : view_depth v ≤ 384

-- A view that is nested too deeply.
abbrev pub IsDeep : View → Type 0
IsDeep v = 384 < view_depth v

-- A list, an array or a map of which the elements or the entries have no bytes.
abbrev pub HasEmptyElements : View → Type 0
HasEmptyElements (leaf_view l) = ⊥
HasEmptyElements (option_view v) = ⊥
HasEmptyElements (seq_view v) = has_bytes (message_type v) ≡ false
HasEmptyElements (map_view k v) = has_bytes (entry_of (message_type k) (message_type v)) ≡ false
HasEmptyElements (array_view n v) = has_bytes (message_type v) ≡ false
HasEmptyElements (tuple_view vs) = ⊥
HasEmptyElements (struct_view ns) = ⊥
HasEmptyElements (enum_view ns) = ⊥

-- A part of the list is a schema of P: from some place on, the nodes are those of schemas in a row, of which this is the first.
abbrev pub HasPart : (View → Type 0) → List NodeView → Type 0
HasPart P nodes = (before : List NodeView) × (v : View) × (after : List View) × (nodes ≡ before ++ preorder_all (v ∷ after)) × P v

-- What each problem says of the nodes that were refused.
abbrev pub Refuses : Problem → List NodeView → Type 0
Refuses Malformed nodes = (v : View) → preorder v ≡ nodes → ⊥
Refuses TooDeep nodes = HasPart IsDeep nodes
Refuses ElementWithoutBytes nodes = HasPart HasEmptyElements nodes
Refuses OutOfMemory nodes = Unit {0}
