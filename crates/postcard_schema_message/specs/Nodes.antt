-- The nodes of a schema in preorder: each type is followed by its parts.
use Rattle.std.specs.Prelude.{ℕ, List, [], ◌∷◌, ◌++◌, length, map, String, string_bytes}
use Rattle.std.specs.declared.alloc.Global.{Global}
use Rattle.postcard_schema.specs.declared.leaf.Leaf.{Leaf}
use Rattle.postcard_schema.specs.declared.schema.Named.{Named}
use Rattle.postcard_schema.specs.Views.{View, Views, NamedViews, leaf_view, option_view, seq_view, map_view, array_view, tuple_view, struct_view, enum_view, no_views, then_view, no_names, then_name}
use Rattle.postcard_schema_message.specs.declared.node.Node.{Node}
use Rattle.postcard_schema_message.specs.declared.node.Node.TheVariants as nodes

-- A node as what it says, wherever its names are in memory.
pub data NodeView : Type 0 where
  leaf_node : Leaf → NodeView
  option_node : NodeView
  seq_node : NodeView
  map_node : NodeView
  array_node : ℕ → NodeView
  tuple_node : ℕ → NodeView
  struct_node : List (List ℕ) → NodeView
  enum_node : List (List ℕ) → NodeView

-- Strings, as their bytes.
abbrev pub texts : List (String Global) → List (List ℕ)
texts names = map (string_bytes {Z = Global}) names

-- The view of a node.
abbrev pub node_view : Node → NodeView
node_view (nodes.Leaf l) = leaf_node l.0
node_view nodes.Option = option_node
node_view nodes.Seq = seq_node
node_view nodes.Map = map_node
node_view (nodes.Array n) = array_node n
node_view (nodes.Tuple n) = tuple_node n
node_view (nodes.Struct names) = struct_node (texts names.items)
node_view (nodes.Enum names) = enum_node (texts names.items)

-- Nodes, as their views.
abbrev pub node_views : List Node → List NodeView
node_views ns = map node_view ns

-- How many parts a node has.
abbrev pub arity : NodeView → ℕ
arity (leaf_node l) = 0
arity option_node = 1
arity seq_node = 1
arity map_node = 2
arity (array_node n) = 1
arity (tuple_node n) = n
arity (struct_node names) = length names
arity (enum_node names) = length names

-- How many levels a type with this node is deeper than its deepest part. A map is a list of tuples.
abbrev pub levels : NodeView → ℕ
levels (leaf_node l) = 0
levels option_node = 1
levels seq_node = 1
levels map_node = 2
levels (array_node n) = 1
levels (tuple_node n) = 1
levels (struct_node names) = 1
levels (enum_node names) = 1

-- The views of a list, in the same order.
abbrev pub listed : Views → List View
listed no_views = []
listed (then_view v vs) = v ∷ listed vs

-- The views that have names, and the names, in the same order.
abbrev pub held : NamedViews → List View
held no_names = []
held (then_name name v ns) = v ∷ held ns

abbrev pub names : NamedViews → List (List ℕ)
names no_names = []
names (then_name name v ns) = name ∷ names ns

-- The nodes of a schema, in preorder.
abbrev mutual
  pub preorder : View → List NodeView
  preorder (leaf_view l) = leaf_node l ∷ []
  preorder (option_view v) = option_node ∷ preorder v
  preorder (seq_view v) = seq_node ∷ preorder v
  preorder (map_view k v) = map_node ∷ (preorder k ++ preorder v)
  preorder (array_view n v) = array_node n ∷ preorder v
  preorder (tuple_view vs) = tuple_node (length (listed vs)) ∷ parts_preorder vs
  preorder (struct_view ns) = struct_node (names ns) ∷ held_preorder ns
  preorder (enum_view ns) = enum_node (names ns) ∷ held_preorder ns

  pub parts_preorder : Views → List NodeView
  parts_preorder no_views = []
  parts_preorder (then_view v vs) = preorder v ++ parts_preorder vs

  pub held_preorder : NamedViews → List NodeView
  held_preorder no_names = []
  held_preorder (then_name name v ns) = preorder v ++ held_preorder ns

-- The nodes of schemas in a row.
abbrev pub preorder_all : List View → List NodeView
preorder_all [] = []
preorder_all (v ∷ vs) = preorder v ++ preorder_all vs

-- The text of a name.
abbrev pub name_text : {A : Type 0} → Named A → List ℕ
name_text n = string_bytes n.name
