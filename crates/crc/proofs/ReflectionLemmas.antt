-- The bits of a number in reverse order, by recursion, and as `reverse_bits` of std says it.
use Rattle.std.proofs.Common.{◌≡◌, ℕ, zero, suc, ◌+◌, ◌*◌, ◌/◌, ◌%◌, ◌^◌, ◌<◌, ◌≤◌, ◌-◌, refl, sym, ap, ap₂, ◌∙◌, add-zero, mul-le-mul_right, pow-suc, pow-add, pow_pos, arith, bit_xor, bit_and}
use Rattle.std.proofs.Math.Pow.{mod-mod-pow}
use Rattle.std.proofs.Math.Nat.{div-one, div-eq_of_lt}
use Rattle.std.proofs.lemmas.Nat.{and_mask, shr-shr, shr_high, shl-shr}
use Rattle.std.specs.Int.{reverse_bits_onto}
use lib.Bits.{xor_block, xor_mod, xor_shr, block_half, block_odd}
use Rattle.crc.proofs.PolynomialLemmas.{shift_suc}

-- The lowest w bits of n, the lowest first.
unfoldable pub mirror : ℕ → ℕ → ℕ
mirror zero n = 0
mirror (suc w) n = n % 2 * 2 ^ w + mirror w (n / 2)

onto : (k n a : ℕ) → reverse_bits_onto k n a ≡ a * 2 ^ k + mirror k n
unfolding reverse_bits_onto mirror
onto zero n a = omega arith
onto (suc k) n a = omega (arith, onto k (n / 2) (a * 2 + n % 2), shift_suc a k)

pub is_mirror : (w n : ℕ) → reverse_bits_onto w n 0 ≡ mirror w n
is_mirror w n = omega (arith, onto w n 0)

pub mirror_suc : (w n : ℕ) → mirror (suc w) n ≡ n % 2 * 2 ^ w + mirror w (n / 2)
unfolding mirror
mirror_suc w n = refl

pub mirror_none : (n : ℕ) → mirror 0 n ≡ 0
unfolding mirror
mirror_none n = refl

pub mirror_below : (w n : ℕ) → mirror w n < 2 ^ w
unfolding mirror
mirror_below zero n = omega arith
mirror_below (suc w) n =
    let bit : n % 2 ≤ 1 = omega arith in
    let h : n % 2 * 2 ^ w ≤ 1 * 2 ^ w = mul-le-mul_right (2 ^ w) bit in
    omega (arith, mirror_below w (n / 2), pow-suc 2 w)

pub mirror_zero : (w : ℕ) → mirror w 0 ≡ 0
unfolding mirror
mirror_zero zero = refl
mirror_zero (suc w) = omega (arith, mirror_zero w)

-- The mirror of a sum is the sum of the mirrors.
pub mirror_sum : (w a b : ℕ) → mirror w (bit_xor a b) ≡ bit_xor (mirror w a) (mirror w b)
unfolding mirror
mirror_sum zero a b = refl
mirror_sum (suc w) a b =
    ap₂ (λ x y. x * 2 ^ w + mirror w y) (xor_mod a b 1) (xor_shr a b 1)
    ∙ ap (λ y. bit_xor (a % 2) (b % 2) * 2 ^ w + y) (mirror_sum w (a / 2) (b / 2))
    ∙ sym (xor_block w (a % 2) (b % 2) (mirror w (a / 2)) (mirror w (b / 2)) (mirror_below w (a / 2)) (mirror_below w (b / 2)))

-- Of a number in two parts: the lowest a bits become the highest.
pub mirror_split : (a b w n : ℕ) → w ≡ a + b → mirror w n ≡ mirror a n * 2 ^ b + mirror b (n / 2 ^ a)
unfolding mirror
mirror_split zero b w n e =
    let f : w ≡ b = omega arith in
    ap (λ v. mirror v n) f ∙ ap (mirror b) (sym (div-one n)) ∙ omega arith
mirror_split (suc a) b zero n e = absurd (omega arith)
mirror_split (suc a) b (suc v) n e =
    let f : v ≡ a + b = omega arith in
    let one : 1 + a ≡ suc a = omega arith in
    let later : n / 2 / 2 ^ a ≡ n / 2 ^ suc a = shr-shr n 1 a ∙ ap (λ i. n / 2 ^ i) one in
    let power : 2 ^ v ≡ 2 ^ a * 2 ^ b = ap (λ i. 2 ^ i) f ∙ pow-add 2 a b in
    ap (λ y. n % 2 * 2 ^ v + y) (mirror_split a b v (n / 2) f ∙ ap (λ y. mirror a (n / 2) * 2 ^ b + mirror b y) later)
    ∙ ap (λ y. n % 2 * y + (mirror a (n / 2) * 2 ^ b + mirror b (n / 2 ^ suc a))) power
    ∙ omega arith

-- Of a number of at most a bits.
pub mirror_short : (a b w n : ℕ) → w ≡ a + b → n < 2 ^ a → mirror w n ≡ mirror a n * 2 ^ b
mirror_short a b w n e below =
    let none : n / 2 ^ a ≡ 0 = div-eq_of_lt below in
    mirror_split a b w n e ∙ ap (λ y. mirror a n * 2 ^ b + mirror b y) none ∙ omega (arith, mirror_zero b)

-- Only the lowest w bits count.
pub mirror_low : (w d s : ℕ) → mirror w (d * 2 ^ w + s) ≡ mirror w s
unfolding mirror
mirror_low zero d s = refl
mirror_low (suc w) d s =
    ap₂ (λ x y. x * 2 ^ w + mirror w y) (block_odd d w s) (block_half d w s)
    ∙ ap (λ y. s % 2 * 2 ^ w + y) (mirror_low w d (s / 2))

-- To mirror twice is to do nothing.
pub mirror_twice : (w n : ℕ) → n < 2 ^ w → mirror w (mirror w n) ≡ n
unfolding mirror
mirror_twice zero n below = omega arith
mirror_twice (suc w) n below =
    let half : n / 2 < 2 ^ w = omega (arith, pow-suc 2 w) in
    let one : suc w ≡ w + 1 = omega arith in
    let r = mirror w (n / 2) in
    let top : (n % 2 * 2 ^ w + r) / 2 ^ w ≡ n % 2 = shr_high (n % 2) w r (mirror_below w (n / 2)) in
    mirror_split w 1 (suc w) (n % 2 * 2 ^ w + r) one
    ∙ ap₂ (λ x y. x * 2 ^ 1 + mirror 1 y) (mirror_low w (n % 2) r ∙ mirror_twice w (n / 2) half) top
    ∙ omega arith

-- Of a multiple of x^j.
pub mirror_scaled : (j w n q : ℕ) → n ≡ j + w → mirror n (q * 2 ^ j) ≡ mirror w q
mirror_scaled j w n q e =
    let low : mirror j (q * 2 ^ j) ≡ 0 = ap (mirror j) (sym (add-zero (q * 2 ^ j))) ∙ mirror_low j q 0 ∙ mirror_zero j in
    mirror_split j w n (q * 2 ^ j) e ∙ ap₂ (λ x y. x * 2 ^ w + mirror w y) low (shl-shr q j) ∙ omega arith

-- The b bits of a number, in reverse order in 128 bits.
pub reversed : (b n : ℕ) → b ≤ 128 → n < 2 ^ b → reverse_bits_onto 128 n 0 / 2 ^ (128 - b) ≡ reverse_bits_onto b n 0
reversed b n few below =
    let all : 128 ≡ b + (128 - b) = omega arith in
    ap (λ y. y / 2 ^ (128 - b)) (is_mirror 128 n ∙ mirror_short b (128 - b) 128 n all below)
    ∙ shl-shr (mirror b n) (128 - b) ∙ sym (is_mirror b n)

-- The lowest b bits of a number, by a mask.
pub masked : (b n : ℕ) → b ≤ 128 → bit_and (n % 2 ^ 128) ((2 ^ 128 - 1) / 2 ^ (128 - b)) ≡ n % 2 ^ b
masked b n few =
    let c = 128 - b in
    let all : 128 ≡ b + c = omega arith in
    let other : 128 ≡ c + b = omega arith in
    let power : 2 ^ b * 2 ^ c ≡ 2 ^ 128 = sym (ap (λ k. 2 ^ k) all ∙ pow-add 2 b c) in
    let one : 1 ≤ 2 ^ c = pow_pos c in
    let low : 2 ^ c - 1 < 2 ^ c = omega arith in
    let mask : (2 ^ 128 - 1) / 2 ^ c ≡ 2 ^ b - 1 =
    ap (λ y. (y - 1) / 2 ^ c) (sym power) ∙ ap (λ y. y / 2 ^ c) (sym (cut (2 ^ b) (2 ^ c) (pow_pos b) one)) ∙ shr_high (2 ^ b - 1) c (2 ^ c - 1) low in
    ap (bit_and (n % 2 ^ 128)) mask ∙ and_mask (n % 2 ^ 128) b ∙ ap (λ k. n % 2 ^ k % 2 ^ b) other ∙ mod-mod-pow n c b
  where
    cut : (B C : ℕ) → 1 ≤ B → 1 ≤ C → (B - 1) * C + (C - 1) ≡ B * C - 1
    cut zero C hb hc = absurd (omega arith)
    cut (suc B) zero hb hc = absurd (omega arith)
    cut (suc B) (suc C) hb hc =
        let b : suc B - 1 ≡ B = omega arith in
        let c : suc C - 1 ≡ C = omega arith in
        let d : suc B * suc C ≡ B * suc C + suc C = omega arith in
        ap₂ (λ x y. x * suc C + y) b c ∙ omega arith
