-- The canonical encoding of a byte string.
use Rattle.std.proofs.Common.{◌≡◌, List, ℕ, suc, [], ◌∷◌, ◌++◌, length, map, refl, ap, ap₂}
use Rattle.postcard_wire.specs.Number.{digits}
use Rattle.postcard_wire.specs.Tree.{Byte, Seq, trees, count}
use Rattle.postcard_wire.specs.Spelling.{canonical}
use Rattle.postcard_shape.proofs.Bytes.{bytes_of_bytes}

-- A byte string has as many trees as bytes.
count_of_bytes : (xs : List ℕ) → count (trees (map Byte xs)) ≡ length xs
count_of_bytes [] = refl
count_of_bytes (x ∷ xs) = ap (λ n. suc n) (count_of_bytes xs)

-- Its encoding is its length, and then the bytes.
pub counted_bytes : (xs : List ℕ) → canonical (Seq (trees (map Byte xs))) ≡ digits (length xs) ++ xs
counted_bytes xs = ap₂ (λ n ys. digits n ++ ys) (count_of_bytes xs) (bytes_of_bytes xs)
