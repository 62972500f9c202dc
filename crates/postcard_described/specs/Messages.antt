-- Messages of a set of trees.
use Rattle.std.specs.Prelude.{ℕ, List}
use Rattle.postcard_wire.specs.Tree.{Tree}
use Rattle.postcard_wire.specs.Spelling.{Spells}

-- The bytes are a message: they are an accepted encoding of a tree of the set.
abbrev pub IsMessage : (Tree → Type 0) → List ℕ → Type 0
IsMessage reads p = (t : Tree) × reads t × Spells t p
