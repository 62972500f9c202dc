-- The number of bytes that a reader has left, if it knows them.
use Rattle.std.specs.Prelude.{ℕ, ◌≤◌, List, length, Option, None, Some}
use Rattle.std.proofs.Common.{arith}

-- The bytes left are known, and there are at least n of them.
abbrev pub AtLeast : Option (List ℕ) → ℕ → Type 0
AtLeast None n = ⊥
AtLeast (Some bytes) n = n ≤ length bytes

-- If at least n bytes are left, so are at least m for any m of at most n.
pub at_least_fewer : (known : Option (List ℕ)) (m n : ℕ) → m ≤ n → AtLeast known n → AtLeast known m
at_least_fewer None m n le enough = enough
at_least_fewer (Some bytes) m n le enough = omega (arith, le, enough)
