-- Lemmas on numbers: their bits and their bytes.
use Rattle.std.proofs.Common.{◌≡◌, ℕ, zero, suc, ◌+◌, ◌-◌, ◌*◌, ◌/◌, ◌%◌, ◌<◌, ◌≤◌, ◌^◌, Bool, true, false, ℤ, pos, negsuc, List, [], ◌∷◌, map, refl, sym, ap, ap₂, ◌∙◌, arith, mod-eq_of_lt}
use Rattle.std.specs.Prelude.{nat_lt, if◌then◌else◌, reverse, FitsSigned}
use Rattle.std.specs.Int.{w128}
use Rattle.std.proofs.lemmas.Int.{ints}
use Rattle.std.proofs.lemmas.Bool.Decides.{nat_tests}
use Rattle.std.proofs.lemmas.Nat.{mod-pow-add}
use Rattle.postcard_wire.specs.Tree.{Byte, trees}
use Rattle.postcard_shape.specs.Base256.{low_first}
use Rattle.postcard_fixint.specs.Fixed.{twos_complement, signed_one}
use Rattle.postcard_schema.specs.declared.leaf.ByteOrder.{ByteOrder}
use Rattle.postcard_schema.specs.declared.leaf.ByteOrder.TheVariants.{Little, Big}
use Rattle.postcard_schema.specs.declared.leaf.Integer.{Integer}
use Rattle.postcard_schema.specs.declared.leaf.Integer.TheVariants.{U8, U16, U32, U64, U128, I8, I16, I32, I64, I128}
use Rattle.postcard_schema.specs.Leaves.{size_of}
use Rattle.postcard_value.specs.Numbers.{order_of, bytes_of, IsBitsOf, signed_of}

-- What holds of 1, 2, 4, 8 and 16 holds of the number of bytes of each type.
pub by_size : (P : ℕ → Type 0) → P 1 → P 2 → P 4 → P 8 → P 16 → (i : Integer) → P (size_of i)
by_size P a b c d e U8 = a
by_size P a b c d e U16 = b
by_size P a b c d e U32 = c
by_size P a b c d e U64 = d
by_size P a b c d e U128 = e
by_size P a b c d e I8 = a
by_size P a b c d e I16 = b
by_size P a b c d e I32 = c
by_size P a b c d e I64 = d
by_size P a b c d e I128 = e

-- Half of the numbers of the type, by its bytes and by its bits.
pub halves : (i : Integer) → 256 ^ size_of i ≡ 2 * 2 ^ (8 * size_of i - 1)
halves = by_size (λ k. 256 ^ k ≡ 2 * 2 ^ (8 * k - 1)) refl refl refl refl refl

-- A number of the type has at most 128 bits.
pub at_most_128 : (i : Integer) → 256 ^ size_of i ≤ 2 ^ 128
at_most_128 = by_size (λ k. 256 ^ k ≤ 2 ^ 128) (omega arith) (omega arith) (omega arith) (omega arith) (omega arith)

-- The k bytes of a number are those of the number modulo 2 ^ (8 * k).
low_modulo : (k n : ℕ) → low_first k (n % 2 ^ (8 * k)) ≡ low_first k n
low_modulo zero n = refl
low_modulo (suc k) n =
    let w : 8 * suc k ≡ 8 * k + 8 = omega arith in
    let split : n % 2 ^ (8 * suc k) ≡ (n / 2 ^ 8 % 2 ^ (8 * k)) * 2 ^ 8 + n % 2 ^ 8 = ap (λ e. n % 2 ^ e) w ∙ mod-pow-add n (8 * k) 8 in
    let first : n % 2 ^ (8 * suc k) % 256 ≡ n % 256 = omega (arith, split) in
    let rest : n % 2 ^ (8 * suc k) / 256 ≡ n / 256 % 2 ^ (8 * k) = omega (arith, split) in
    ap₂ (λ (x : ℕ) (xs : List ℕ). x ∷ xs) first (ap (low_first k) rest ∙ low_modulo k (n / 256))

powers : (i : Integer) → 256 ^ size_of i ≡ 2 ^ (8 * size_of i)
powers = by_size (λ k. 256 ^ k ≡ 2 ^ (8 * k)) refl refl refl refl refl

-- The bytes of a number are those of the bits that its type has.
pub spell_modulo : (order : ByteOrder) (i : Integer) (n : ℕ)
    → (order_of order).spell (size_of i) (n % 256 ^ size_of i) ≡ (order_of order).spell (size_of i) n
spell_modulo Little i n = ap (λ m. low_first (size_of i) (n % m)) (powers i) ∙ low_modulo (size_of i) n
spell_modulo Big i n = ap reverse (ap (λ m. low_first (size_of i) (n % m)) (powers i) ∙ low_modulo (size_of i) n)

-- The bytes of a row of their trees.
pub bytes_of_trees : (bs : List ℕ) → bytes_of (trees (map Byte bs)) ≡ bs
bytes_of_trees [] = refl
bytes_of_trees (b ∷ bs) = ap (λ cs. b ∷ cs) (bytes_of_trees bs)

-- A number is the value of its bytes.
pub value_of_bytes : (order : ByteOrder) (k n : ℕ) → n < 256 ^ k
    → (order_of order).value (bytes_of (trees (map Byte ((order_of order).spell k n)))) ≡ n
value_of_bytes order k n below = let o = order_of order in ap o.value (bytes_of_trees (o.spell k n)) ∙ o.worth k n below

-- A signed number of any type fits 128 bits.
pub fits_128 : (i : Integer) (z : ℤ) (n : ℕ) → IsBitsOf i z n → FitsSigned w128 z
fits_128 i (pos m) n (low, is) = record { sfits = omega (arith, ints, halves i, at_most_128 i, low.0, low.1) }
fits_128 i (negsuc m) n (low, is) = record { sfits = omega (arith, ints, halves i, at_most_128 i, low.0, low.1) }

-- The bits of a signed number are below 256 ^ k, and the signed number of these bits is that number.
pub bits_below : (i : Integer) (z : ℤ) (n : ℕ) → IsBitsOf i z n → n < 256 ^ size_of i
bits_below i (pos m) n (low, is) = omega (arith, ints, halves i, low.0, low.1, is)
bits_below i (negsuc m) n (low, is) = omega (arith, ints, halves i, low.0, low.1, is)

-- A number of the type has the same bits each time.
pub same_bits : (i : Integer) (y z : ℤ) (m n : ℕ) → y ≡ z → IsBitsOf i y m → IsBitsOf i z n → m ≡ n
same_bits i y z m n same (low, is) (high, was) = is ∙ ap (twos_complement (size_of i)) same ∙ sym was

-- Each number below 256 ^ k is the bits of a number of the type.
pub bits_are_of : (i : Integer) (n : ℕ) → n < 256 ^ size_of i → IsBitsOf i (signed_of (size_of i) n) n
bits_are_of i n below = by (nat_lt (2 * n) (256 ^ size_of i)) refl
  where
    by : (small : Bool) → nat_lt (2 * n) (256 ^ size_of i) ≡ small → IsBitsOf i (if small then pos n else negsuc (256 ^ size_of i - suc n)) n
    by true e =
        let low : 2 * n < 256 ^ size_of i = grind (arith, nat_tests, e) in
        ((omega (arith, ints, halves i, low), omega (arith, ints, halves i, low)), refl)
    by false e =
        let high : 256 ^ size_of i ≤ 2 * n = grind (arith, nat_tests, e) in
        ((omega (arith, ints, halves i, high, below), omega (arith, ints, halves i, high, below)), omega (arith, high, below))

-- The signed number of the bits of a number is that number.
pub number_of_bits : (i : Integer) (z : ℤ) (n : ℕ) → IsBitsOf i z n → signed_of (size_of i) (n % 256 ^ size_of i) ≡ z
number_of_bits i z n is =
    let below = bits_below i z n is in
    let own = bits_are_of i n below in
    ap (signed_of (size_of i)) (mod-eq_of_lt below) ∙ signed_one (size_of i) (8 * size_of i) (halves i) _ z own.0 is.0 (sym own.1 ∙ is.1)
