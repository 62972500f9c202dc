-- When one set of trees has the encodings of another, and when two sets have the same encodings.
use Rattle.std.specs.Prelude.{⊤}
use Rattle.postcard_wire.specs.Tree.{Tree, Trees}
use Rattle.postcard_described.specs.SameBytes.{SameBytes, SameRow, same_tree, same_row}

-- Each tree of the first set has one of the second that the same bytes encode.
abbrev pub Covered : (Tree → Type 0) → (Tree → Type 0) → Type 0
Covered F G = (t : Tree) → F t → (u : Tree) × G u × SameBytes t u

-- The same of sets of rows.
abbrev pub RowCovered : (Trees → Type 0) → (Trees → Type 0) → Type 0
RowCovered K L = (ts : Trees) → K ts → (us : Trees) × L us × SameRow ts us

-- The first set is covered by the second. If `exact` holds, the second is covered by the first.
pub record Within (exact : Type 0) (few many : Tree → Type 0) : Type 0 where
  pub inside : Covered few many
  pub all : exact → Covered many few

-- The same of sets of rows.
pub record RowWithin (exact : Type 0) (few many : Trees → Type 0) : Type 0 where
  pub inside : RowCovered few many
  pub all : exact → RowCovered many few

pub covers_itself : (F : Tree → Type 0) → Covered F F
covers_itself F t h = (t, h, same_tree t)

pub row_covers_itself : (K : Trees → Type 0) → RowCovered K K
row_covers_itself K ts h = (ts, h, same_row ts)

-- A set is the same as itself.
pub itself : {has : Tree → Type 0} → Within ⊤ has has
itself {has} = record { inside = covers_itself has; all = λ _. covers_itself has }

pub row_itself : {has : Trees → Type 0} → RowWithin ⊤ has has
row_itself {has} = record { inside = row_covers_itself has; all = λ _. row_covers_itself has }

-- A set that is covered by another, without the converse.
pub some_of : {few many : Tree → Type 0} → Covered few many → Within ⊥ few many
some_of h = record { inside = h; all = λ e. absurd e }

-- Two sets are the same.
pub record Same {X : Type 0} (has other : X → Type 0) : Type 0 where
  pub there : (x : X) → has x → other x
  pub back : (x : X) → other x → has x

pub alike : {X : Type 0} {has : X → Type 0} → Same has has
alike = record { there = λ x h. h; back = λ x h. h }

same_covered : {F G H : Tree → Type 0} → Same F G → Covered G H → Covered F H
same_covered s c t f = c t (s.there t f)

covered_same : {F G H : Tree → Type 0} → Same F G → Covered H G → Covered H F
covered_same s c t h = let (u, g, k) = c t h in (u, s.back u g, k)

-- A set that equals the first is within the same second set.
pub within_same : {e : Type 0} {has other many : Tree → Type 0} → Same has other → Within e other many → Within e has many
within_same s w = record { inside = same_covered s w.inside; all = λ e. covered_same s (w.all e) }

map_covered : {F G H : Tree → Type 0} → ((t : Tree) → F t → G t) → Covered G H → Covered F H
map_covered h c t f = c t (h t f)

-- A subset of a covered set is covered.
pub some_within : {e : Type 0} {F G H : Tree → Type 0} → ((t : Tree) → F t → G t) → Within e G H → Within ⊥ F H
some_within h w = some_of (map_covered h w.inside)
