-- The tree of a value (wire format 1.0, chapter "the serde data model").
use Rattle.std.specs.Prelude.{◌≡◌, Vec, map, string_bytes, box_value}
use Rattle.std.specs.declared.alloc.Global.{Global}
use Rattle.postcard_wire.specs.Tree.{Tree, Trees, Byte, Boolean, Text, trees}
use Rattle.postcard_wire.specs.Tree as nodes
use Rattle.postcard_shape.specs.Lists.{EachIs}
use Rattle.postcard_schema.specs.declared.leaf.ByteOrder.TheVariants.{Little}
use Rattle.postcard_schema.specs.Leaves.{float_size, size_of}
use Rattle.postcard_value.specs.Numbers.{fixed_tree, integer_tree}
use Rattle.postcard_value.specs.declared.value.Value.{Value, fold-Value}
use Rattle.postcard_value.specs.declared.value.Value.TheOpen.{Value-F}

-- One step of the fold `tree`: the tree of a value whose parts are already trees. A float is the array of its bytes, the lowest first (wire
-- format 1.0, "f32" and "f64"). A byte string is a list of bytes.
abbrev pub tree_step : Value-F Tree → Tree
tree_step (Value-F.Bool x) = Boolean x
tree_step (Value-F.Integer integer bits) = integer_tree integer bits
tree_step (Value-F.Float float bits) = fixed_tree Little (float_size float) bits
tree_step (Value-F.Char c) = nodes.Char c
tree_step (Value-F.Str s) = Text (string_bytes s)
tree_step (Value-F.Bytes v) = nodes.Seq (trees (map Byte v.items))
tree_step (Value-F.Fixed order integer bits) = fixed_tree order (size_of integer) bits
tree_step Value-F.Absent = nodes.Absent
tree_step (Value-F.Present t) = nodes.Present (box_value t)
tree_step (Value-F.Seq v) = nodes.Seq (trees v.items)
tree_step (Value-F.Group v) = nodes.Group (trees v.items)
tree_step (Value-F.Variant i t) = nodes.Variant i (box_value t)

-- The tree that a value is written as.
abbrev pub tree : Value → Tree
tree = fold-Value Tree tree_step

-- The value has this tree.
abbrev pub IsTree : Tree → Value → Type 0
IsTree t v = t ≡ tree v

-- Each of the values has its tree, in order.
abbrev pub AreTrees : Trees → Vec Value Global → Type 0
AreTrees ts v = EachIs IsTree ts v.items
