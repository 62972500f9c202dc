-- The schema that a file describes. A device sends it as a schema message: the list of the schema's nodes, or the COBS frame of that list.
use Rattle.std.specs.Prelude.{◌≡◌, ◌≢◌, ◌⊎◌, ⊤, ℕ, ◌≤◌, List, [], ◌++◌, All, Vec, string_bytes, refl}
use Rattle.std.proofs.Common.{inl, inr}
use Rattle.std.specs.declared.alloc.Global.{Global}
use Rattle.postcard_cobs.specs.Groups.{EndsFrame, Groups}
use Rattle.postcard_de.specs.Front.{ReadsFront}
use Rattle.postcard_schema.specs.Views.{view}
use Rattle.postcard_schema.specs.declared.schema.Schema.{Schema}
use Rattle.postcard_schema_message.specs.Bounded.{Refuses}
use Rattle.postcard_schema_message.specs.Leaves.{leaf_at, leaf_back, leaf_index}
use Rattle.postcard_schema_message.specs.Nodes.{node_views, preorder}
use Rattle.postcard_schema_message.specs.Wire.{Names, NodeRow, row_of}
use Rattle.postcard_schema_message.specs.declared.error.Problem.TheVariants as problems
use Rattle.postcard_schema_message.specs.declared.leaf.NodeLeaf.{NodeLeaf}
use Rattle.postcard_schema_message.specs.declared.node.Node.{Node}
use Rattle.postcard_shape.specs.Cases.{case, no_case, variants}
use Rattle.postcard_shape.specs.Enumerations.{enumeration}
use Rattle.postcard_shape.specs.Leaves.{num, text}
use Rattle.postcard_shape.specs.Lists.{seq}
use Rattle.postcard_shape.specs.Rows.{group, none}
use Rattle.postcard_shape.specs.Shape.{Shape, growing, via}
use Rattle.postcard_wire.specs.Spelling.{Spells}
use Rattle.postcard_wire.specs.Tree.{Tree}
use Rattle.pcard_files.specs.declared.fault.SchemaFault.{SchemaFault}
use Rattle.pcard_files.specs.declared.fault.SchemaFault.TheVariants.{NoNodes, MoreBytes, Nodes}
use Rattle.pcard_files.specs.declared.fault.TypeFault.{TypeFault}
use Rattle.pcard_files.specs.declared.fault.TypeFault.TheVariants.{Unnamed, NoSchema, NoFrame, NoSchemaInFrame, OutOfMemory}

-- The shapes of what nodes hold: a type without parts, nothing, a count, and names.
abbrev pub leaf_shape : Shape NodeLeaf
leaf_shape = via (λ v. v.0) (enumeration 36 leaf_index leaf_at leaf_back)

abbrev pub unit_shape : Shape (Unit {0})
unit_shape = group none

abbrev pub count_shape : Shape ℕ
count_shape = num 64 (inr (inr (inl refl)))

abbrev pub names_shape : Shape Names
names_shape = via (λ v. v.items) (growing (seq (via (λ s. string_bytes s) (growing text))))

-- The shape of nodes in a list: that of `Vec<Node>`.
abbrev pub row_shape : Shape NodeRow
row_shape =
    variants (case leaf_shape (case unit_shape (case unit_shape (case unit_shape
    (case count_shape (case count_shape (case names_shape (case names_shape no_case))))))))

abbrev pub nodes_shape : Shape (Vec Node Global)
nodes_shape = via (λ v. v.items) (growing (seq (via row_of row_shape)))

-- The bytes begin with an encoding of the nodes, and `rest` follows it.
abbrev pub BeginsWith : List ℕ → Vec Node Global → List ℕ → Type 0
BeginsWith bytes nodes rest = ReadsFront nodes_shape.reads nodes_shape.value bytes nodes rest

-- The bytes are a schema message: an encoding of the schema's nodes.
pub record IsMessageOf (bytes : List ℕ) (schema : Schema) : Type 0 where
  pub nodes : Vec Node Global
  pub encoded : BeginsWith bytes nodes []
  pub are : preorder (view schema) ≡ node_views nodes.items

-- The bytes are no schema message: they begin with no list of nodes, or more bytes follow it, or the nodes give no schema.
abbrev pub IsNoMessage : List ℕ → SchemaFault → Type 0
IsNoMessage bytes NoNodes = (tree : Tree) (front rest : List ℕ) → nodes_shape.reads tree → Spells tree front → bytes ≡ front ++ rest → ⊥
IsNoMessage bytes MoreBytes = (nodes : Vec Node Global) × (rest : List ℕ) × BeginsWith bytes nodes rest × (rest ≢ [])
IsNoMessage bytes (Nodes problem) =
    (nodes : Vec Node Global) × BeginsWith bytes nodes [] × (problem ≢ problems.OutOfMemory) × Refuses problem (node_views nodes.items)

-- The bytes are the COBS frame of the data, and the zero that ends it.
abbrev pub IsFrameOf : List ℕ → List ℕ → Type 0
IsFrameOf bytes content = (frame : List ℕ) × EndsFrame bytes frame [] × Groups frame content

-- The bytes are no schema message.
abbrev pub HasNoMessage : List ℕ → Type 0
HasNoMessage bytes = (fault : SchemaFault) × IsNoMessage bytes fault

-- The bytes describe the schema: they are its message, or else a COBS frame of its message.
abbrev pub Describes : List ℕ → Schema → Type 0
Describes bytes schema =
    IsMessageOf bytes schema
    ⊎ (HasNoMessage bytes × ((content : List ℕ) × IsFrameOf bytes content × IsMessageOf content schema))

-- There are bytes, and none of them is one with which a node begins.
abbrev pub LooksLikeText : List ℕ → Type 0
LooksLikeText bytes = (bytes ≢ []) × All (λ byte. 9 ≤ byte) bytes

-- The last byte is no zero, or isn't the only one.
abbrev pub IsUnframed : List ℕ → Type 0
IsUnframed bytes = (frame : List ℕ) → EndsFrame bytes frame [] → ⊥

-- The bytes describe no schema: neither they are a schema message nor the data of a frame.
abbrev pub DescribesNone : List ℕ → TypeFault → Type 0
DescribesNone bytes Unnamed = HasNoMessage bytes × IsUnframed bytes × LooksLikeText bytes
DescribesNone bytes (NoSchema fault) = IsNoMessage bytes fault × IsUnframed bytes × (LooksLikeText bytes → ⊥)
DescribesNone bytes (NoFrame fault) =
    IsNoMessage bytes fault × ((frame : List ℕ) × EndsFrame bytes frame [] × ((content : List ℕ) → Groups frame content → ⊥))
DescribesNone bytes (NoSchemaInFrame fault) = HasNoMessage bytes × ((content : List ℕ) × IsFrameOf bytes content × IsNoMessage content fault)
DescribesNone bytes OutOfMemory = ⊤
DescribesNone bytes fault = ⊥
