-- Bytes as a list of trees, one for each byte.
use Rattle.std.proofs.Common.{◌≡◌, ℕ, suc, ◌<◌, List, [], ◌∷◌, length, get_or, refl, ap, Fits, w8, arith}
use Rattle.std.specs.Prelude.{map}
use Rattle.postcard_wire.specs.Tree.{Tree, Trees, Byte, NoTrees, Then, trees, count}
use Rattle.postcard_wire.specs.Spelling.{SpellsAll, canonical_all}
use Rattle.postcard_wire.specs.Reading.{IsByte, Each}
use Rattle.postcard_shape.specs.Leaves.{byte}
use Rattle.postcard_shape.specs.Lists.{AllFit, EachIs, AreValues}

-- The canonical encoding of a list of bytes, without its count, is those bytes.
pub bytes_of_bytes : (xs : List ℕ) → canonical_all (trees (map Byte xs)) ≡ xs
bytes_of_bytes [] = refl
bytes_of_bytes (x ∷ xs) = ap (λ z. x ∷ z) (bytes_of_bytes xs)

-- Bytes fit.
pub bytes_fit : (u : List ℕ) → ((k : ℕ) → Fits w8 (get_or u k 0)) → AllFit byte.fits u
bytes_fit [] h = tt
bytes_fit (b ∷ u) h = (omega (arith, h 0), bytes_fit u (λ i. h (suc i)))

-- The value is the byte of its tree.
abbrev pub ByteIs : Tree → ℕ → Type 0
ByteIs t v = t ≡ Byte v

-- The row of a tree for each byte.
pub bytes_trees : List ℕ → Trees
bytes_trees [] = NoTrees
bytes_trees (b ∷ u) = Then (Byte b) (bytes_trees u)

-- Bytes spell the row of their trees, and are its values.
pub trees_are : (u : List ℕ) → ((k : ℕ) → get_or u k 0 < 256) →
    (count (bytes_trees u) ≡ length u) × Each IsByte (bytes_trees u) × SpellsAll (bytes_trees u) u
    × EachIs ByteIs (bytes_trees u) u
unfolding bytes_trees
trees_are [] h = (refl, tt, refl, tt)
trees_are (b ∷ u) h =
    let k = trees_are u (λ i. h (suc i)) in
    (ap suc k.0, ((b, refl, h 0), k.1), (b ∷ [], u, refl, k.2, refl), (refl, k.3))

-- Bytes are the values that they encode.
pub are_bytes : (u : List ℕ) → ((k : ℕ) → get_or u k 0 < 256) → AreValues IsByte ByteIs u u
are_bytes u h = let k = trees_are u h in (bytes_trees u, k.1, k.2, k.3)
