-- The words of values without parts.
use Rattle.std.proofs.Common.{◌≡◌, ℕ, suc, ◌+◌, ◌*◌, ◌-◌, ◌%◌, ◌^◌, ◌<◌, ◌≤◌, pos, negsuc, [], ◌∷◌, map, refl, sym, ap, ◌∙◌, arith}
use Rattle.std.proofs.lemmas.Bool.Decides.{nat_tests}
use Rattle.postcard_wire.specs.Tree.{Byte, trees}
use Rattle.postcard_schema.specs.declared.leaf.ByteOrder.{ByteOrder}
use Rattle.postcard_schema.specs.declared.leaf.Integer.{Integer}
use Rattle.postcard_schema.specs.declared.leaf.Integer.TheVariants.{U8, U16, U32, U64, U128, I8, I16, I32, I64, I128}
use Rattle.postcard_schema.specs.Leaves.{is_signed, size_of}
use Rattle.postcard_value.specs.NumberLemmas.{spell_modulo, value_of_bytes}
use Rattle.postcard_value.specs.Numbers.{bytes_of, integer_tree, order_of, signed_of}
use Rattle.postcard_compat.specs.Said.{Number, fixed_number, integer_said}

-- What an integer says is its number, whatever its width.
pub integer_says : (i : Integer) (n : ℕ) → integer_said i (integer_tree i n) ≡ Number (fixed_number (is_signed i) (size_of i) (n % 256 ^ size_of i)) ∷ []
integer_says U8 n = refl
integer_says U16 n = refl
integer_says U32 n = refl
integer_says U64 n = refl
integer_says U128 n = refl
integer_says I8 n = refl
integer_says I16 n = refl
integer_says I32 n = refl
integer_says I64 n = refl
integer_says I128 n = refl

-- A number modulo a power is below it.
below_power : (i : Integer) (n : ℕ) → n % 256 ^ size_of i < 256 ^ size_of i
below_power U8 n = omega arith
below_power U16 n = omega arith
below_power U32 n = omega arith
below_power U64 n = omega arith
below_power U128 n = omega arith
below_power I8 n = omega arith
below_power I16 n = omega arith
below_power I32 n = omega arith
below_power I64 n = omega arith
below_power I128 n = omega arith

-- The number of some bits in two's complement.
pub near : (k n : ℕ) → 2 * n < 256 ^ k → signed_of k n ≡ pos n
near k n h = grind (arith, nat_tests)

pub far : (k n m : ℕ) → 256 ^ k ≤ 2 * n → m + suc n ≡ 256 ^ k → signed_of k n ≡ negsuc m
far k n m h e =
    let same : 256 ^ k - suc n ≡ m = omega arith in
    grind (arith, nat_tests, ap negsuc same)

-- The value of the bytes of a number is its bits.
pub bytes_worth : (order : ByteOrder) (i : Integer) (n : ℕ)
    → (order_of order).value (bytes_of (trees (map Byte ((order_of order).spell (size_of i) n)))) ≡ n % 256 ^ size_of i
bytes_worth order i n =
    ap (λ bs. (order_of order).value (bytes_of (trees (map Byte bs)))) (sym (spell_modulo order i n))
    ∙ value_of_bytes order (size_of i) (n % 256 ^ size_of i) (below_power i n)
