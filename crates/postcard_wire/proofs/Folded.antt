-- Zigzag as the code computes it, with shifts and exclusive or.
use Rattle.std.proofs.Common.{◌≡◌, ℕ, zero, suc, ◌+◌, ◌-◌, ◌*◌, ◌/◌, ◌%◌, ◌<◌, ◌^◌, ℤ, pos, negsuc, ◌-ℤ◌, bit_xor, bit_and, refl, ap, ◌∙◌, arith}
use Rattle.std.proofs.Math.Nat.{mod-eq_of_lt, div-eq_of_lt, add-mod_left}
use Rattle.std.proofs.lemmas.Nat.{and_mask}
use Rattle.std.proofs.lemmas.Int.{to_z-of_z, of_z-to_z, to_z_pos}
use Rattle.std.specs.Int.Bits.{xor_add_and, xor_zero_r}
use Rattle.std.specs.Int.Signed.{shr_z}
use mir.Syntax.{Width, w8, w16, w32, w64, w128}
use mir.Val.{SFits, of_z, to_z, bits, hbits}
use Rattle.postcard_wire.specs.Number.{zigzag}

-- A width has twice as many numbers as its non-negative half.
doubled : (w : Width) → 2 ^ bits w ≡ 2 * 2 ^ hbits w
doubled w8 = refl
doubled w16 = refl
doubled w32 = refl
doubled w64 = refl
doubled w128 = refl

-- Exclusive or with all ones flips each bit.
flipped : (k x : ℕ) → x < 2 ^ k → bit_xor x (2 ^ k - 1) ≡ 2 ^ k - 1 - x
flipped k x h =
    let a = xor_add_and x (2 ^ k - 1) in
    let b : bit_and x (2 ^ k - 1) ≡ x = and_mask x k ∙ mod-eq_of_lt h in
    omega arith

-- Twice a number, with each bit flipped if the number is negative, is its zigzag.
zig_bits : (w : Width) (z : ℤ) → SFits w z → bit_xor (of_z w z * 2 % 2 ^ bits w) (of_z w (shr_z z (2 ^ hbits w))) ≡ zigzag z
zig_bits w (pos a) f =
    let h : a < 2 ^ hbits w = f.sfits in
    let d = doubled w in
    let k : a * 2 < 2 ^ bits w = omega arith in
    rw (mod-eq_of_lt k, div-eq_of_lt h, xor_zero_r) (omega arith)
zig_bits w (negsuc a) f =
    let h : a < 2 ^ hbits w = f.sfits in
    let d = doubled w in
    let x = 2 ^ bits w - (2 * a + 2) in
    let e : (2 ^ bits w - suc a) * 2 ≡ 2 ^ bits w + (2 ^ bits w - (2 * a + 2)) = omega arith in
    let m : 2 ^ bits w - (2 * a + 2) < 2 ^ bits w = omega arith in
    let k : (2 ^ bits w - suc a) * 2 % 2 ^ bits w ≡ 2 ^ bits w - (2 * a + 2) = ap (λ (n : ℕ). n % 2 ^ bits w) e ∙ (add-mod_left (2 ^ bits w) (2 ^ bits w - (2 * a + 2)) ∙ mod-eq_of_lt m) in
    let q : a / 2 ^ hbits w ≡ 0 = div-eq_of_lt h in
    rw (k, q) (flipped (bits w) (2 ^ bits w - (2 * a + 2)) m ∙ omega arith)

-- What the code computes from a signed number is its zigzag.
pub folded : (w : Width) (z : ℤ) (r : ℕ) → SFits w z
    → r ≡ of_z w (to_z w (bit_xor (of_z w z * 2 % 2 ^ bits w) (of_z w (shr_z (to_z w (of_z w z)) (2 ^ hbits w))))) → r ≡ zigzag z
folded w z r f e =
    let s = to_z-of_z w z f in
    let k : bit_xor (of_z w z * 2 % 2 ^ bits w) (of_z w (shr_z (to_z w (of_z w z)) (2 ^ hbits w))) ≡ zigzag z =
    ap (λ (y : ℤ). bit_xor (of_z w z * 2 % 2 ^ bits w) (of_z w (shr_z y (2 ^ hbits w)))) s ∙ zig_bits w z f in
    e ∙ (ap (λ (n : ℕ). of_z w (to_z w n)) k ∙ of_z-to_z w (zigzag z) (zig_fits w z f))
  where
    zig_fits : (w : Width) (z : ℤ) → SFits w z → zigzag z < 2 ^ bits w
    zig_fits w (pos a) f = omega (arith, f.sfits, doubled w)
    zig_fits w (negsuc a) f = omega (arith, f.sfits, doubled w)

-- 1 is the same number with a sign.
small_one : (w : Width) → to_z w 1 ≡ pos 1
small_one w8 = refl
small_one w16 = refl
small_one w32 = refl
small_one w64 = refl
small_one w128 = refl

-- 0 is the same number with a sign.
small_zero : (w : Width) → to_z w 0 ≡ pos 0
small_zero w8 = refl
small_zero w16 = refl
small_zero w32 = refl
small_zero w64 = refl
small_zero w128 = refl

-- An even number is the zigzag of its half.
unfold_even : (w : Width) (a : ℕ) → a < 2 ^ hbits w → zigzag (to_z w (bit_xor a (of_z w (pos 0 -ℤ to_z w (of_z w (to_z w 0)))))) ≡ 2 * a
unfold_even w a h =
    rw (small_zero w, small_zero w, xor_zero_r, to_z_pos w a h) refl

-- An odd number is the zigzag of its half with each bit flipped.
unfold_odd : (w : Width) (a : ℕ) → a < 2 ^ hbits w → zigzag (to_z w (bit_xor a (of_z w (pos 0 -ℤ to_z w (of_z w (to_z w 1)))))) ≡ 2 * a + 1
unfold_odd w a h =
    let d = doubled w in
    let f : SFits w (negsuc a) = record { sfits = h } in
    let k : 2 ^ bits w - 1 - a ≡ 2 ^ bits w - suc a = omega arith in
    rw (small_one w, small_one w, flipped (bits w) a (omega arith), k) (ap zigzag (to_z-of_z w (negsuc a) f))

-- What the code computes from an unsigned number has it as its zigzag.
pub unfolded : (w : Width) (n : ℕ) (a b : ℤ) → n < 2 ^ bits w → a ≡ to_z w (n / 2) → b ≡ to_z w (bit_and n 1)
    → zigzag (to_z w (bit_xor (of_z w a) (of_z w (pos 0 -ℤ to_z w (of_z w b))))) ≡ n
unfolded w n a b h e f =
    let d = doubled w in
    let m : bit_and n 1 ≡ n % 2 = and_mask n 1 in
    let l : n / 2 < 2 ^ hbits w = omega arith in
    let g : b ≡ to_z w (n % 2) = f ∙ ap (to_z w) m in
    let s : of_z w (to_z w (n / 2)) ≡ n / 2 = of_z-to_z w (n / 2) (omega arith) in
    rw (e, s, g) (by_rest w n l (n % 2) refl)
  where
    by_rest : (w : Width) (n : ℕ) → n / 2 < 2 ^ hbits w → (r : ℕ) → r ≡ n % 2 → zigzag (to_z w (bit_xor (n / 2) (of_z w (pos 0 -ℤ to_z w (of_z w (to_z w r)))))) ≡ n
    by_rest w n l zero e = unfold_even w (n / 2) l ∙ omega arith
    by_rest w n l (suc zero) e = unfold_odd w (n / 2) l ∙ omega arith
    by_rest w n l (suc (suc r)) e = absurd (omega arith)

-- The lemma `folded` at 16 bits, in the form that the prover looks for.
pub folded_16 : (z : ℤ) (r : ℕ) → SFits w16 z
    → r ≡ of_z w16 (to_z w16 (bit_xor (of_z w16 z * 2 % 2 ^ 16) (of_z w16 (shr_z (to_z w16 (of_z w16 z)) (2 ^ 15))))) → r ≡ zigzag z
folded_16 = folded w16

-- The lemma `folded` at 32 bits.
pub folded_32 : (z : ℤ) (r : ℕ) → SFits w32 z
    → r ≡ of_z w32 (to_z w32 (bit_xor (of_z w32 z * 2 % 2 ^ 32) (of_z w32 (shr_z (to_z w32 (of_z w32 z)) (2 ^ 31))))) → r ≡ zigzag z
folded_32 = folded w32

-- The lemma `folded` at 64 bits.
pub folded_64 : (z : ℤ) (r : ℕ) → SFits w64 z
    → r ≡ of_z w64 (to_z w64 (bit_xor (of_z w64 z * 2 % 2 ^ 64) (of_z w64 (shr_z (to_z w64 (of_z w64 z)) (2 ^ 63))))) → r ≡ zigzag z
folded_64 = folded w64

-- The lemma `folded` at 128 bits.
pub folded_128 : (z : ℤ) (r : ℕ) → SFits w128 z
    → r ≡ of_z w128 (to_z w128 (bit_xor (of_z w128 z * 2 % 2 ^ 128) (of_z w128 (shr_z (to_z w128 (of_z w128 z)) (2 ^ 127))))) → r ≡ zigzag z
folded_128 = folded w128
