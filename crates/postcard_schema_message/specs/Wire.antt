-- What a node is written as: an enum, whose variants stand in a row in the order of their indices.
use Rattle.std.specs.Prelude.{ℕ, String, Vec}
use Rattle.std.specs.declared.alloc.Global.{Global}
use Rattle.postcard_schema_message.specs.declared.leaf.NodeLeaf.{NodeLeaf}
use Rattle.postcard_schema_message.specs.declared.node.Node.{Node}
use Rattle.postcard_schema_message.specs.declared.node.Node.TheVariants as nodes
use Rattle.postcard_shape.specs.declared.cases.Case.{Case}
use Rattle.postcard_shape.specs.declared.cases.Case.TheVariants.{This, Next}
use Rattle.postcard_shape.specs.declared.cases.NoCase.{NoCase}

-- Names, as a node holds them.
abbrev pub Names : Type 0
Names = Vec (String Global) Global

-- The variants with a count or with names.
abbrev pub CountedRow : Type 0
CountedRow = Case ℕ (Case ℕ (Case Names (Case Names NoCase)))

abbrev pub NodeRow : Type 0
NodeRow = Case NodeLeaf (Case (Unit {0}) (Case (Unit {0}) (Case (Unit {0}) CountedRow)))

-- A node as its variant in the row: the index is the number of `Next`.
abbrev pub row_of : Node → NodeRow
row_of (nodes.Leaf leaf) = This leaf
row_of nodes.Option = Next (This tt)
row_of nodes.Seq = Next (Next (This tt))
row_of nodes.Map = Next (Next (Next (This tt)))
row_of (nodes.Array count) = Next (Next (Next (Next (This count))))
row_of (nodes.Tuple count) = Next (Next (Next (Next (Next (This count)))))
row_of (nodes.Struct names) = Next (Next (Next (Next (Next (Next (This names))))))
row_of (nodes.Enum names) = Next (Next (Next (Next (Next (Next (Next (This names)))))))
