-- The kinds of nodes of numbers of a fixed width, and of the arrays of their bytes.
use Rattle.std.specs.Prelude.{ℕ}
use Rattle.postcard_wire.specs.Tree.{Tree}
use Rattle.postcard_shape.specs.Base256.{Order}
use Rattle.postcard_shape.specs.Leaves.{byte}
use Rattle.postcard_shape.specs.Lists.{array}
use Rattle.postcard_shape.specs.Shape.{Shape}
use Rattle.postcard_de.specs.Reads.{Node, tree_node}
use Rattle.postcard_de.specs.Refuses.{WantsBytes, NoneBad}
use Rattle.postcard_fixint.specs.Fixed.{FixedWidth, IsFixed}

-- An array of that shape, which has n bytes.
abbrev pub array_node : {V : Type 0} → Shape V → ℕ → Node Tree V
array_node shape n = tree_node shape.reads shape.value (WantsBytes n) NoneBad

-- A number of that type, with its bytes in that order.
abbrev pub fixed_node : {V : Type 0} → Order → FixedWidth V → Node Tree V
fixed_node order width = tree_node (array width.size byte).reads (IsFixed order width) (WantsBytes width.size) NoneBad
