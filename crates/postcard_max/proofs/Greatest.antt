-- The greater of two sizes, if they are equal, or if one of them is none.
use Rattle.std.proofs.Common.{◌≡◌, ℕ, ◌+◌, ◌^◌, true, false, Bool, refl, ap, arith}
use Rattle.std.specs.Prelude.{Option, Some, None, max, nat_lt, if◌then◌else◌}
use Rattle.postcard_max.specs.Sizes.{sum_of, greater_of}

-- The greatest of a number that is above 0, twice, of 1 and of 0 is the number.
top : (n : ℕ) → max 1 (max (1 + n) (max (1 + n) 0)) ≡ 1 + n
top n = omega arith

-- The greatest size of an enum of a variant without content, and two of the same content.
pub greatest_of_bound : (g : Option ℕ)
    → greater_of (Some 1) (greater_of (sum_of (Some 1) g) (greater_of (sum_of (Some 1) g) (Some 0)))
    ≡ sum_of (Some 1) g
greatest_of_bound None = refl
greatest_of_bound (Some a) =
    elim (nat_lt (1 + a) (2 ^ 64)) as (λ b. greater_of (Some 1) (greater_of (if b then Some (1 + a) else None) (greater_of (if b then Some (1 + a) else None) (Some 0))) ≡ (if b then Some (1 + a) else None)) [
      | true ↦ ap (λ (n : ℕ). Some n) (top a)
      | false ↦ refl
    ]
