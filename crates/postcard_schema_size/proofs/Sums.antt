-- Sizes, which are numbers of 64 bits or none: their sums, and the greater of two, may be taken from the left or from the right.
use Rattle.std.proofs.Common.{◌≡◌, ℕ, ◌<◌, ◌≤◌, ◌^◌, refl, ap, ◌∙◌, arith}
use Rattle.std.specs.Prelude.{Option, Some, None, IfSome, if◌then◌else◌}
use Rattle.std.proofs.lemmas.Bool.{lt-ltb, le-ltb}
use Rattle.std.proofs.lemmas.Bool.Decides.{nat_tests}
use Rattle.postcard_max.specs.Sizes.{limited, sum_of, greater_of}

-- A number below 2^64 is its own limited size.
pub small : (n : ℕ) → n < 2 ^ 64 → limited n ≡ Some n
small n h = ap (λ b. if b then Some n else None) (lt-ltb n (2 ^ 64) h)

-- A number from 2^64 on has no limited size.
pub large : (n : ℕ) → 2 ^ 64 ≤ n → limited n ≡ None
large n h = ap (λ b. if b then Some n else None) (le-ltb n (2 ^ 64) h)

-- A size that is known is of 64 bits.
abbrev pub IsSmall : Option ℕ → Type 0
IsSmall size = IfSome size (λ n. n < 2 ^ 64)

-- A sum of sizes fits 64 bits, or is none.
pub sum_small : (a b : Option ℕ) → IsSmall (sum_of a b)
sum_small None b = tt
sum_small (Some a) None = tt
sum_small (Some a) (Some b) = grind (arith, nat_tests)

-- Adding a size of 64 bits, or none, to 0 gives this size.
pub zero_first : (b : Option ℕ) → IsSmall b → sum_of (Some 0) b ≡ b
zero_first None h = refl
zero_first (Some b) h = ap limited (omega arith) ∙ small b h

-- Adding 0 to a size of 64 bits, or none, gives this size.
pub zero_last : (a : Option ℕ) → IsSmall a → sum_of a (Some 0) ≡ a
zero_last None h = refl
zero_last (Some a) h = ap limited (omega arith) ∙ small a h

-- The sum of three sizes is the same from the left and from the right.
pub sums : (a b c : Option ℕ) → sum_of (sum_of a b) c ≡ sum_of a (sum_of b c)
sums a b c = grind (arith, nat_tests)

-- The greatest of three sizes is the same from the left and from the right.
pub greaters : (a b c : Option ℕ) → greater_of (greater_of a b) c ≡ greater_of a (greater_of b c)
greaters a b c = grind arith

-- The greater of a size and 0 is the size.
pub least_last : (a : Option ℕ) → greater_of a (Some 0) ≡ a
least_last a = grind arith
