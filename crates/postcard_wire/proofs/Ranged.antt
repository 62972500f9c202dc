-- A signed number is in the range of a width if and only if its zigzag is below the power of two of
-- the width.
use Rattle.std.proofs.Common.{◌≡◌, ℕ, zero, suc, ◌-◌, ◌*◌, ◌/◌, ◌%◌, ◌<◌, ◌^◌, inl, inr, ℤ, pos, negsuc, refl, arith}
use Rattle.std.proofs.lemmas.Int.{ints}
use mir.Syntax.{Width, w8, w16, w32, w64, w128}
use mir.Val.{SFits, bits, hbits}
use Rattle.postcard_wire.specs.Number.{zigzag, InRange}
use Rattle.postcard_wire.specs.Tree.{IsWidth}

-- A width has twice as many numbers as one bit less.
one_bit_more : (w : ℕ) → IsWidth w → 2 ^ w ≡ 2 * 2 ^ (w - 1)
one_bit_more w (inl e) = rw e refl
one_bit_more w (inr (inl e)) = rw e refl
one_bit_more w (inr (inr (inl e))) = rw e refl
one_bit_more w (inr (inr (inr e))) = rw e refl

-- A signed number in the range of a width has a zigzag of that width.
pub zig_below : (w : ℕ) (z : ℤ) → IsWidth w → InRange w z → zigzag z < 2 ^ w
zig_below w (pos n) wide h = omega (arith, ints, one_bit_more w wide, h.0, h.1)
zig_below w (negsuc n) wide h = omega (arith, ints, one_bit_more w wide, h.0, h.1)

-- A signed number whose zigzag has a width is in the range of that width.
pub in_range : (w : ℕ) (z : ℤ) → IsWidth w → zigzag z < 2 ^ w → InRange w z
in_range w (pos n) wide h = let e = one_bit_more w wide in (omega (arith, ints), omega (arith, ints))
in_range w (negsuc n) wide h = let e = one_bit_more w wide in (omega (arith, ints), omega (arith, ints))

-- Each unsigned number is the zigzag of some signed number.
unzigzag : (n : ℕ) → (z : ℤ) × (zigzag z ≡ n)
unzigzag n = by_rest (n % 2) refl
  where
    by_rest : (r : ℕ) → r ≡ n % 2 → (z : ℤ) × (zigzag z ≡ n)
    by_rest zero e = (pos (n / 2), omega arith)
    by_rest (suc zero) e = (negsuc (n / 2), omega arith)
    by_rest (suc (suc r)) e = absurd (omega arith)

-- Each unsigned number of a width is the zigzag of a signed number of that width.
pub zig_onto : (w n : ℕ) → IsWidth w → n < 2 ^ w → (z : ℤ) × InRange w z × (zigzag z ≡ n)
zig_onto w n wide h =
    let u = unzigzag n in
    (u.0, in_range w u.0 wide (rw u.1 h), u.1)

-- Half of the numbers of a machine width are negative.
halves : (w : Width) → 2 ^ (bits w - 1) ≡ 2 ^ hbits w
halves w8 = refl
halves w16 = refl
halves w32 = refl
halves w64 = refl
halves w128 = refl

-- A signed value of a machine width is in the range of that width.
pub ranged : (w : Width) (z : ℤ) → SFits w z → InRange (bits w) z
ranged w (pos n) f = let e = halves w in (omega (arith, ints, f.sfits), omega (arith, ints, f.sfits))
ranged w (negsuc n) f = let e = halves w in (omega (arith, ints, f.sfits), omega (arith, ints, f.sfits))

-- A signed value of 16 bits is in the range of 16 bits.
pub ranged_16 : (z : ℤ) → SFits w16 z → InRange 16 z
ranged_16 = ranged w16
