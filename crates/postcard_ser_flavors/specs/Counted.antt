-- What a contract sees of the flavor that counts, as a number of bytes, and why it is lawful.
use Rattle.std.proofs.Common.{◌≡◌, ℕ, ◌+◌, ◌^◌, ◌<◌, ◌≤◌, List, length, length-append, arith}
use Rattle.std.specs.Coded.{le_prop}
use Rattle.postcard_ser_flavors.specs.Flavor.{IsFlavor}

-- The count n is the count m and the number of the bytes x.
abbrev pub Counts : ℕ → List ℕ → ℕ → Type 0
Counts m x n = n ≡ m + length x

-- The count still fits a `usize` with x.
abbrev pub CanCount : ℕ → List ℕ → Type 0
CanCount m x = m + length x < 2 ^ 64

-- A count never falls.
abbrev pub Rises : ℕ → ℕ → Type 0
Rises m n = m ≤ n

-- The counting flavor is lawful.
pub count_lawful : IsFlavor Counts CanCount Rises
count_lawful = record {
  appended_none = λ m. omega arith;
  appended_join = λ m n k x y p q. omega (arith, length-append x y);
  room_front = λ m x y r. omega (arith, length-append x y);
  room_rest = λ m n x y r p v. omega (arith, length-append x y);
  reaches_self = λ m. omega arith;
  reaches_join = λ m n k p q. omega arith;
  reaches_prop = λ m n. hlevel le_prop;
}
