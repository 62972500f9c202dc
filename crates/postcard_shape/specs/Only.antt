-- The shape of a type that has only some of another type's values, as the bytes up to 100: reading
-- refuses the others.
use Rattle.postcard_wire.proofs.Delimited.{fewer_delimited}
use Rattle.postcard_wire.specs.Tree.{Tree}
use Rattle.postcard_shape.specs.Shape.{ComesBack, Shape}

-- The tree is one that is read, and one of its values passes the test.
abbrev pub IsOnly : {V : Type 0} → (V → Type 0) → (Tree → Type 0) → (Tree → V → Type 0) → Tree → Type 0
IsOnly {V} test reads value t = reads t × ((v : V) × value t v × test v)

pub only_inside : {V : Type 0} (test : V → Type 0) (reads : Tree → Type 0) (value : Tree → V → Type 0) (t : Tree) → IsOnly test reads value t → reads t
only_inside test reads value t r = r.0

-- A value that comes back does so among those that pass the test, if it does.
pub only_again : {V : Type 0} (test : V → Type 0) (tree : V → Tree) (reads : Tree → Type 0) (value : Tree → V → Type 0) (fits : V → Type 0) → ComesBack tree reads value fits →
    ComesBack tree (IsOnly test reads value) value (λ v. fits v × test v)
only_again test tree reads value fits again v f = let k = again v f.0 in ((k.0, (v, k.1, f.1)), k.1)

-- The shape s with only the values that pass the test.
abbrev pub only : {V : Type 0} → (V → Type 0) → Shape V → Shape V
only test s = record {
  tree = s.tree;
  refusal = s.refusal;
  text = s.text;
  reads = IsOnly test s.reads s.value;
  value = s.value;
  same = s.same;
  other = s.other;
  fits = λ v. s.fits v × test v;
  delimited = fewer_delimited _ _ (only_inside test s.reads s.value) s.delimited;
  well_formed = λ t r. s.well_formed t r.0;
  one_value = s.one_value;
  again = only_again test s.tree s.reads s.value s.fits s.again;
}
