-- The first items of a list, encoded many at a time.
use Rattle.std.specs.Prelude.{◌≡◌, ℕ, ◌<◌, ◌≤◌, List, length, map, take}
use Rattle.postcard_wire.specs.Spelling.{canonical_all}
use Rattle.postcard_wire.specs.Tree.{trees}
use Rattle.postcard_shape.specs.Lists.{AllFit}
use Rattle.postcard_shape.specs.Shape.{Shape}
use Rattle.postcard_shape.specs.declared.first.FirstBytes.{FirstBytes}
use Rattle.postcard_shape.specs.declared.first.FirstBytes.TheVariants.{Whole, Block, Row, SomeOneByOne, OneByOne}

-- The bytes are the encodings of the items, which fit.
abbrev pub AreBytesOf : {V : Type 0} → Shape V → List V → List ℕ → Type 0
AreBytesOf s items bytes = (bytes ≡ canonical_all (trees (map s.tree items))) × AllFit s.fits items

-- The bytes are the encodings of the first n items, at least one, which fit.
pub record IsBlock {V : Type 0} (s : Shape V) (items : List V) (bytes : List ℕ) (n : ℕ) : Type 0 where
  pub some : 0 < n
  pub within : n ≤ length items
  pub gives : bytes ≡ canonical_all (trees (map s.tree (take n items)))
  pub fits : AllFit s.fits (take n items)

-- The bytes are the encodings of all items, or of some first ones; or there are none, for some first items, or for all.
abbrev pub AreFirst : {V : Type 0} → Shape V → List V → FirstBytes → Type 0
AreFirst s items (Whole bytes) = AreBytesOf s items bytes.now
AreFirst s items (Block bytes n) = IsBlock s items bytes n
AreFirst s items (Row bytes n) = IsBlock s items bytes n
AreFirst s items (SomeOneByOne n) = (0 < n) × (n ≤ length items)
AreFirst s items OneByOne = Unit {0}

-- They are those of all items.
abbrev pub IsWhole : FirstBytes → Type 0
IsWhole (Whole bytes) = Unit {0}
IsWhole _ = ⊥

-- They are those of the first n, in 16 bytes.
abbrev pub IsBlockOf : ℕ → FirstBytes → Type 0
IsBlockOf n (Block bytes count) = count ≡ n
IsBlockOf n _ = ⊥

-- They are those of the first n, in 64 bytes.
abbrev pub IsRowOf : ℕ → FirstBytes → Type 0
IsRowOf n (Row bytes count) = count ≡ n
IsRowOf n _ = ⊥
