-- The canonical encoding of a value that fits spells its tree, and what is read from it looks like
-- the value.
use Rattle.postcard_wire.specs.Spelling.{Spells, canonical}
use Rattle.postcard_wire.proofs.Shortest.{Spells-canonical}
use Rattle.postcard_shape.specs.Shape.{Shape}

-- The canonical encoding of a value that fits spells its tree.
pub is_spelled : {V : Type 0} (s : Shape V) (x : V) → s.fits x → Spells (s.tree x) (canonical (s.tree x))
is_spelled s x f = Spells-canonical (s.tree x) (s.well_formed (s.tree x) (s.again x f).0)

-- A value of the tree of a value that fits looks like it.
pub is_same : {V : Type 0} (s : Shape V) (x v : V) → s.fits x → s.value (s.tree x) v → s.same v x
is_same s x v f h = s.one_value (s.tree x) v x h (s.again x f).1
