-- The bytes of a number, which the program takes from an array of sixteen bytes.
use Rattle.std.proofs.Common.{◌≡◌, ℕ, zero, suc, ◌/◌, ◌%◌, ◌^◌, ◌≤◌, List, ◌∷◌, take, refl, sym, ap, ap₂, ◌∙◌, pow-suc, div-one, arith}
use Rattle.std.specs.Int.{w128, byte_at, bytes_low_first, to_le_bytes}
use Rattle.std.proofs.Math.Nat.{div-div-eq-div-mul}
use Rattle.crc.specs.Checked.{low_bytes}

-- The bytes of a number by their places.
by_places : (k i n : ℕ) → bytes_low_first i k n ≡ low_bytes k (n / 256 ^ i)
by_places zero i n = refl
by_places (suc k) i n =
    ap₂ (λ (b : ℕ) (bs : List ℕ). b ∷ bs) (first i n) (by_places k (suc i) n ∙ ap (low_bytes k) (next_place i n))
  where
    first : (j m : ℕ) → byte_at j m ≡ m / 256 ^ j % 256
    first zero m = ap (λ y. y % 256) (sym (div-one m))
    first (suc j) m = refl

    next_place : (j m : ℕ) → m / 256 ^ suc j ≡ m / 256 ^ j / 256
    next_place j m = ap (λ y. m / y) (pow-suc 256 j) ∙ sym (div-div-eq-div-mul m (256 ^ j) 256)

fewer : (j k n : ℕ) → j ≤ k → take j (low_bytes k n) ≡ low_bytes j n
fewer zero k n h = refl
fewer (suc j) zero n h = absurd (omega arith)
fewer (suc j) (suc k) n h = ap (λ (bs : List ℕ). n % 256 ∷ bs) (fewer j k (n / 256) (omega arith))

-- The first j of the sixteen bytes are those of the number's low j bytes.
pub front_bytes : (j n : ℕ) (bytes : List ℕ) → bytes ≡ to_le_bytes w128 n → j ≤ 16 → take j bytes ≡ low_bytes j n
front_bytes j n bytes e h = ap (take j) (e ∙ by_places 16 0 n ∙ ap (low_bytes 16) (div-one n)) ∙ fewer j 16 n h
