-- The bytes that a reader has left after a prefix was read.
use Rattle.std.proofs.Common.{◌≡◌, List, ℕ, ◌++◌, Option, Some, None, refl, subst}
use Rattle.std.specs.Io.KnownBytes.{Consumes}

-- A reader that knows its bytes has the bytes after the prefix left.
pub unread : (known new : Option (List ℕ)) (all front : List ℕ) → known ≡ Some all → Consumes known new front
    → (rest : List ℕ) × (new ≡ Some rest) × (all ≡ front ++ rest)
unread known None all front e c = absurd (subst (λ (k : Option (List ℕ)). Consumes k None front) e c)
unread known (Some rest) all front e c = (rest, refl, subst (λ (k : Option (List ℕ)). Consumes k (Some rest) front) e c)
