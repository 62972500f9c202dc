-- What the steps of a register do to the polynomial in it.
use Rattle.std.proofs.Common.{◌≡◌, ℕ, zero, suc, ◌+◌, ◌-◌, ◌*◌, ◌/◌, ◌%◌, ◌^◌, ◌<◌, ◌==◌, Bool, true, false, ◌∷◌, [], refl, sym, ap, ap₂, subst, subst₂, ◌∙◌, one-mul, mul-one, mul_assoc, mul-lt-mul_of_pos_right, mod-lt, pow-suc, pow-add, pow_pos, add-one, arith, bit_xor, if◌then◌else◌, div-lt_iff_lt-mul}
use Rattle.std.proofs.lemmas.Nat.{shr_split, mod_low}
use lib.Bits.{xor_assoc, xor_comm, xor_zero_r, xor_shifted, xor_lt}
use Rattle.crc.specs.Polynomial.{Congruent}
use Rattle.crc.specs.Crc.{in_order}
use Rattle.crc.specs.Register.{next, rounds, first_byte}
use Rattle.crc.proofs.PolynomialLemmas.{sum_shift, same, chain, sums, twice, shift_suc}
use Rattle.crc.proofs.ReflectionLemmas.{mirror, is_mirror, mirror_suc, mirror_below, mirror_sum, mirror_split, mirror_short, mirror_low}

-- The n bits of a number in order are a number of n bits.
pub in_order_below : (refin : Bool) (n r : ℕ) → r < 2 ^ n → in_order refin n r < 2 ^ n
in_order_below true n r h = subst (λ y. y < 2 ^ n) (sym (is_mirror n r)) (mirror_below n r)
in_order_below false n r h = h

-- The sum in order is the sum of both in order.
pub in_order_sum : (refin : Bool) (n a b : ℕ) → in_order refin n (bit_xor a b) ≡ bit_xor (in_order refin n a) (in_order refin n b)
in_order_sum true n a b = is_mirror n (bit_xor a b) ∙ mirror_sum n a b ∙ sym (ap₂ bit_xor (is_mirror n a) (is_mirror n b))
in_order_sum false n a b = refl

-- p is congruent to x^w modulo x^w + p.
pub leads : (w p : ℕ) → p < 2 ^ w → Congruent (2 ^ w + p) p (2 ^ w)
leads w p below = record {
  quotient = true ∷ [];
  differ_by =
      xor_comm p (2 ^ w) ∙ ap (λ y. bit_xor y p) (sym (one-mul (2 ^ w))) ∙ xor_shifted 1 w p below
      ∙ ap (λ y. y + p) (one-mul (2 ^ w)) ∙ sym (xor_zero_r (2 ^ w + p));
}

module _ (v f p : ℕ) (fits : f < 2 ^ suc v) where
  half_below : (r : ℕ) → r < 2 ^ suc v → r / 2 < 2 ^ v
  half_below r below = omega (arith, pow-suc 2 v)

  top_below : (r : ℕ) → r < 2 ^ suc v → r / 2 ^ v < 2
  top_below r below =
      let h : r < 2 * 2 ^ v = omega (arith, pow-suc 2 v) in
      (div-lt_iff_lt-mul (pow_pos v)).1 h

  -- By the bit that leaves the register.
  next_below : (refin : Bool) (r : ℕ) → r < 2 ^ suc v → next refin (suc v) f r < 2 ^ suc v
  next_below true r below = by (r % 2) (omega arith)
    where
      half : r / 2 < 2 ^ suc v
      half = omega arith

      by : (d : ℕ) → d < 2 → (if d == 1 then bit_xor (r / 2) f else r / 2) < 2 ^ suc v
      by zero h = half
      by (suc zero) h = xor_lt (suc v) (r / 2) f half fits
      by (suc (suc d)) h = absurd (omega arith)
  next_below false r below = by (r / 2 ^ (suc v - 1)) (subst (λ k. r / 2 ^ k < 2) one (top_below r below))
    where
      one : v ≡ suc v - 1
      one = omega arith

      up : r * 2 % 2 ^ suc v < 2 ^ suc v
      up = mod-lt (r * 2) (pow_pos (suc v))

      by : (d : ℕ) → d < 2 → (if d == 1 then bit_xor (r * 2 % 2 ^ suc v) f else r * 2 % 2 ^ suc v) < 2 ^ suc v
      by zero h = up
      by (suc zero) h = xor_lt (suc v) (r * 2 % 2 ^ suc v) f up fits
      by (suc (suc d)) h = absurd (omega arith)

  pub rounds_below : (refin : Bool) (k r : ℕ) → r < 2 ^ suc v → rounds refin (suc v) f k r < 2 ^ suc v
  unfolding rounds
  rounds_below refin zero r below = below
  rounds_below refin (suc k) r below = next_below refin (rounds refin (suc v) f k r) (rounds_below refin k r below)

  -- The polynomial times x, by the highest coefficient.
  reflected_next : mirror (suc v) f ≡ p → (r : ℕ) → r < 2 ^ suc v → Congruent (2 ^ suc v + p) (mirror (suc v) (next true (suc v) f r)) (mirror (suc v) r * 2)
  reflected_next is_p r below = by (r % 2) refl (omega arith)
    where
      p_below : p < 2 ^ suc v
      p_below = subst (λ y. y < 2 ^ suc v) is_p (mirror_below (suc v) f)

      size : suc v ≡ v + 1
      size = omega arith

      shorter : mirror (suc v) (r / 2) ≡ mirror v (r / 2) * 2
      shorter = mirror_short v 1 (suc v) (r / 2) size (half_below r below)

      all : (d : ℕ) → r % 2 ≡ d → mirror (suc v) r * 2 ≡ (d * 2 ^ v + mirror v (r / 2)) * 2
      all d e = ap (λ y. y * 2) (mirror_suc v r) ∙ ap (λ y. (y * 2 ^ v + mirror v (r / 2)) * 2) e

      after : (d : ℕ) → r % 2 ≡ d → mirror (suc v) (next true (suc v) f r) ≡ mirror (suc v) (if d == 1 then bit_xor (r / 2) f else r / 2)
      after d e = ap (λ y. mirror (suc v) (if y == 1 then bit_xor (r / 2) f else r / 2)) e

      even : (L : ℕ) → (0 * 2 ^ v + L) * 2 ≡ L * 2
      even L = omega arith

      odd : (L : ℕ) → L < 2 ^ v → (1 * 2 ^ v + L) * 2 ≡ bit_xor (2 ^ suc v) (L * 2)
      odd L h =
          let small : L * 2 < 2 ^ suc v = omega (arith, pow-suc 2 v) in
          let s = xor_shifted 1 (suc v) (L * 2) small in
          let t : 1 * 2 ^ suc v ≡ 2 ^ suc v = one-mul (2 ^ suc v) in
          let u = ap (λ y. bit_xor y (L * 2)) t in
          omega (arith, pow-suc 2 v)

      by : (d : ℕ) → r % 2 ≡ d → d < 2 → Congruent (2 ^ suc v + p) (mirror (suc v) (next true (suc v) f r)) (mirror (suc v) r * 2)
      by zero e h = subst₂ (λ y z. Congruent (2 ^ suc v + p) y z) (sym (after 0 e ∙ shorter)) (sym (all 0 e ∙ even (mirror v (r / 2)))) (same (mirror v (r / 2) * 2))
      by (suc zero) e h =
          subst₂ (λ y z. Congruent (2 ^ suc v + p) y z)
          (sym (after 1 e ∙ mirror_sum (suc v) (r / 2) f ∙ ap₂ bit_xor shorter is_p))
          (sym (all 1 e ∙ odd (mirror v (r / 2)) (mirror_below v (r / 2)) ∙ xor_comm (2 ^ suc v) (mirror v (r / 2) * 2)))
          (sums (same (mirror v (r / 2) * 2)) (leads (suc v) p p_below))
      by (suc (suc d)) e h = absurd (omega arith)

  -- A register without its highest bit d, doubled.
  doubled : (r d : ℕ) → r / 2 ^ v ≡ d → (r * 2 ≡ d * 2 ^ suc v + r * 2 % 2 ^ suc v) × (r * 2 % 2 ^ suc v < 2 ^ suc v)
  doubled r d at =
      let small : r % 2 ^ v < 2 ^ v = mod-lt r (pow_pos v) in
      let low_small : r % 2 ^ v * 2 < 2 ^ suc v = omega (arith, pow-suc 2 v) in
      let parts : d * 2 ^ v + r % 2 ^ v ≡ r = ap (λ y. y * 2 ^ v + r % 2 ^ v) (sym at) ∙ shr_split r v in
      let split : r * 2 ≡ d * 2 ^ suc v + r % 2 ^ v * 2 = spread (2 ^ v) (2 ^ suc v) (r % 2 ^ v) (pow-suc 2 v) parts in
      let rest : r * 2 % 2 ^ suc v ≡ r % 2 ^ v * 2 = ap (λ y. y % 2 ^ suc v) split ∙ mod_low d (suc v) (r % 2 ^ v * 2) low_small in
      (split ∙ ap (λ y. d * 2 ^ suc v + y) (sym rest), mod-lt (r * 2) (pow_pos (suc v)))
    where
      spread : (P Q l : ℕ) → Q ≡ P * 2 → d * P + l ≡ r → r * 2 ≡ d * Q + l * 2
      spread P Q l e h = omega (arith, ap (λ y. d * y) e, mul_assoc d P 2)

  plain_next : f ≡ p → (r : ℕ) → r < 2 ^ suc v → Congruent (2 ^ suc v + p) (next false (suc v) f r) (r * 2)
  plain_next is_p r below = by (r / 2 ^ (suc v - 1)) refl (subst (λ k. r / 2 ^ k < 2) one (top_below r below))
    where
      one : v ≡ suc v - 1
      one = omega arith

      whole : (d : ℕ) → r / 2 ^ (suc v - 1) ≡ d → (r * 2 ≡ d * 2 ^ suc v + r * 2 % 2 ^ suc v) × (r * 2 % 2 ^ suc v < 2 ^ suc v)
      whole d e = doubled r d (ap (λ k. r / 2 ^ k) one ∙ e)

      after : (d : ℕ) → r / 2 ^ (suc v - 1) ≡ d → next false (suc v) f r ≡ (if d == 1 then bit_xor (r * 2 % 2 ^ suc v) f else r * 2 % 2 ^ suc v)
      after d e = ap (λ y. if y == 1 then bit_xor (r * 2 % 2 ^ suc v) f else r * 2 % 2 ^ suc v) e

      none : (Q y : ℕ) → 0 * Q + y ≡ y
      none Q y = omega arith

      by : (d : ℕ) → r / 2 ^ (suc v - 1) ≡ d → d < 2 → Congruent (2 ^ suc v + p) (next false (suc v) f r) (r * 2)
      by zero e h = subst₂ (λ y z. Congruent (2 ^ suc v + p) y z) (sym (after 0 e)) (sym ((whole 0 e).0 ∙ none (2 ^ suc v) (r * 2 % 2 ^ suc v))) (same (r * 2 % 2 ^ suc v))
      by (suc zero) e h =
          let up = r * 2 % 2 ^ suc v in
          let sum : bit_xor up (2 ^ suc v) ≡ r * 2 = xor_comm up (2 ^ suc v) ∙ ap (λ y. bit_xor y up) (sym (one-mul (2 ^ suc v))) ∙ xor_shifted 1 (suc v) up (whole 1 e).1 ∙ sym (whole 1 e).0 in
          subst₂ (λ y z. Congruent (2 ^ suc v + p) y z) (ap (bit_xor up) (sym is_p) ∙ sym (after 1 e)) sum
          (sums (same up) (leads (suc v) p (subst (λ y. y < 2 ^ suc v) is_p fits)))
      by (suc (suc d)) e h = absurd (omega arith)

  module _ (refin : Bool) (is_p : in_order refin (suc v) f ≡ p) where
    next_is : (r : ℕ) → r < 2 ^ suc v → Congruent (2 ^ suc v + p) (in_order refin (suc v) (next refin (suc v) f r)) (in_order refin (suc v) r * 2)
    next_is = by refin is_p
      where
        by : (o : Bool) → in_order o (suc v) f ≡ p → (r : ℕ) → r < 2 ^ suc v → Congruent (2 ^ suc v + p) (in_order o (suc v) (next o (suc v) f r)) (in_order o (suc v) r * 2)
        by true e r below =
            subst₂ (λ y z. Congruent (2 ^ suc v + p) y (z * 2)) (sym (is_mirror (suc v) (next true (suc v) f r))) (sym (is_mirror (suc v) r))
            (reflected_next (sym (is_mirror (suc v) f) ∙ e) r below)
        by false e r below = plain_next e r below

    -- The polynomial times x^k.
    pub rounds_is : (k r : ℕ) → r < 2 ^ suc v → Congruent (2 ^ suc v + p) (in_order refin (suc v) (rounds refin (suc v) f k r)) (in_order refin (suc v) r * 2 ^ k)
    unfolding rounds
    rounds_is zero r below = subst (λ z. Congruent (2 ^ suc v + p) (in_order refin (suc v) r) z) (sym (mul-one (in_order refin (suc v) r))) (same (in_order refin (suc v) r))
    rounds_is (suc k) r below =
        subst (λ z. Congruent (2 ^ suc v + p) (in_order refin (suc v) (rounds refin (suc v) f (suc k) r)) z) (sym (shift_suc (in_order refin (suc v) r) k))
        (chain (next_is (rounds refin (suc v) f k r) (rounds_below refin k r below)) (twice (rounds_is k r below)))

    module _ (u : ℕ) (bytes : suc v ≡ 8 + u) where
      pub first_is : (i : ℕ) → i < 256 → (first_byte refin (suc v) i < 2 ^ suc v) × (in_order refin (suc v) (first_byte refin (suc v) i) ≡ in_order refin 8 i * 2 ^ u)
      first_is i h = by refin
        where
          power : 2 ^ suc v ≡ 2 ^ 8 * 2 ^ u
          power = ap (λ y. 2 ^ y) bytes ∙ pow-add 2 8 u

          less : u ≡ suc v - 8
          less = omega arith

          high : i * 2 ^ u < 2 ^ suc v
          high = subst (λ y. i * 2 ^ u < y) (sym power) (mul-lt-mul_of_pos_right h (pow_pos u))

          low : (P : ℕ) → 0 < P → i < 256 * P
          low zero pos = absurd (omega arith)
          low (suc P) pos = omega arith

          by : (o : Bool) → (first_byte o (suc v) i < 2 ^ suc v) × (in_order o (suc v) (first_byte o (suc v) i) ≡ in_order o 8 i * 2 ^ u)
          by true = (subst (λ y. i < y) (sym power) (low (2 ^ u) (pow_pos u)), is_mirror (suc v) i ∙ mirror_short 8 u (suc v) i bytes h ∙ ap (λ y. y * 2 ^ u) (sym (is_mirror 8 i)))
          by false = (subst (λ k. i * 2 ^ k < 2 ^ suc v) less high, ap (λ k. i * 2 ^ k) (sym less))

      -- A byte times x^(8 m), times x^n.
      pub table_is : (m i : ℕ) → i < 256 → Congruent (2 ^ suc v + p) (in_order refin (suc v) (rounds refin (suc v) f (8 * suc m) (first_byte refin (suc v) i))) (in_order refin 8 i * 2 ^ (8 * m) * 2 ^ suc v)
      table_is m i h =
          let first = first_is i h in
          let size : u + 8 * suc m ≡ 8 * m + suc v = omega arith in
          let power : 2 ^ u * 2 ^ (8 * suc m) ≡ 2 ^ (8 * m) * 2 ^ suc v = sym (pow-add 2 u (8 * suc m)) ∙ ap (λ k. 2 ^ k) size ∙ pow-add 2 (8 * m) (suc v) in
          let B = in_order refin 8 i in
          let e : in_order refin (suc v) (first_byte refin (suc v) i) * 2 ^ (8 * suc m) ≡ B * 2 ^ (8 * m) * 2 ^ suc v =
          ap (λ y. y * 2 ^ (8 * suc m)) first.1 ∙ mul_assoc B (2 ^ u) (2 ^ (8 * suc m)) ∙ ap (λ y. B * y) power ∙ sym (mul_assoc B (2 ^ (8 * m)) (2 ^ suc v)) in
          subst (λ z. Congruent (2 ^ suc v + p) (in_order refin (suc v) (rounds refin (suc v) f (8 * suc m) (first_byte refin (suc v) i))) z) e
          (rounds_is (8 * suc m) (first_byte refin (suc v) i) first.0)

-- ---- k bits at once

-- A register r, and k bits x that were added to those that leave it: their entry t is added to those
-- that stay.
pub reflected_takes : (g n k r w x t : ℕ) → r < 2 ^ n → x ≡ bit_xor (r % 2 ^ k) w → Congruent g (mirror n t) (mirror k x * 2 ^ n)
    → Congruent g (mirror n (bit_xor (r / 2 ^ k) t)) (bit_xor (mirror n r * 2 ^ k) (mirror k w * 2 ^ n))
reflected_takes g n k r w x t below x_is at =
    let high = mirror n (r / 2 ^ k) in
    let low = mirror k r * 2 ^ n in
    let sum : k + n ≡ n + k = omega arith in
    let whole : mirror n r * 2 ^ k ≡ bit_xor low high =
    sym (mirror_short n k (k + n) r sum below) ∙ mirror_split k n (k + n) r refl ∙ sym (xor_shifted (mirror k r) n high (mirror_below n (r / 2 ^ k))) in
    let cut : mirror k (r % 2 ^ k) ≡ mirror k r = sym (mirror_low k (r / 2 ^ k) (r % 2 ^ k)) ∙ ap (mirror k) (shr_split r k) in
    let pushed : mirror k x * 2 ^ n ≡ bit_xor low (mirror k w * 2 ^ n) =
    ap (λ y. y * 2 ^ n) (ap (mirror k) x_is ∙ mirror_sum k (r % 2 ^ k) w ∙ ap (λ y. bit_xor y (mirror k w)) cut) ∙ sym (sum_shift n (mirror k r) (mirror k w)) in
    let moved : bit_xor high (bit_xor low (mirror k w * 2 ^ n)) ≡ bit_xor (mirror n r * 2 ^ k) (mirror k w * 2 ^ n) =
    sym (xor_assoc high low (mirror k w * 2 ^ n)) ∙ ap (λ y. bit_xor y (mirror k w * 2 ^ n)) (xor_comm high low ∙ sym whole) in
    subst₂ (λ y z. Congruent g y z) (sym (mirror_sum n (r / 2 ^ k) t)) (ap (bit_xor high) pushed ∙ moved) (sums (same high) at)

pub plain_takes : (g n k r w x t : ℕ) → x ≡ bit_xor (r * 2 ^ k / 2 ^ n) w → Congruent g t (x * 2 ^ n)
    → Congruent g (bit_xor (r * 2 ^ k % 2 ^ n) t) (bit_xor (r * 2 ^ k) (w * 2 ^ n))
plain_takes g n k r w x t x_is at =
    let R = r * 2 ^ k in
    let high = R / 2 ^ n * 2 ^ n in
    let low = R % 2 ^ n in
    let whole : R ≡ bit_xor high low = sym (shr_split R n) ∙ sym (xor_shifted (R / 2 ^ n) n low (mod-lt R (pow_pos n))) in
    let pushed : x * 2 ^ n ≡ bit_xor high (w * 2 ^ n) = ap (λ y. y * 2 ^ n) x_is ∙ sym (sum_shift n (R / 2 ^ n) w) in
    let moved : bit_xor low (bit_xor high (w * 2 ^ n)) ≡ bit_xor R (w * 2 ^ n) =
    sym (xor_assoc low high (w * 2 ^ n)) ∙ ap (λ y. bit_xor y (w * 2 ^ n)) (xor_comm low high ∙ sym whole) in
    subst (λ z. Congruent g (bit_xor low t) z) (ap (bit_xor low) pushed ∙ moved) (sums (same low) at)

pub rounds_none : (refin : Bool) (n f r : ℕ) → rounds refin n f 0 r ≡ r
unfolding rounds
rounds_none refin n f r = refl

pub rounds_more : (refin : Bool) (n f k r : ℕ) → rounds refin n f (k + 1) r ≡ next refin n f (rounds refin n f k r)
unfolding rounds
rounds_more refin n f k r = rw add-one refl

-- First m rounds, and then k.
pub rounds_add : (refin : Bool) (n f k m r : ℕ) → rounds refin n f k (rounds refin n f m r) ≡ rounds refin n f (m + k) r
unfolding rounds
rounds_add refin n f zero m r = let e : m ≡ m + 0 = omega arith in ap (λ i. rounds refin n f i r) e
rounds_add refin n f (suc k) m r =
    let e : m + suc k ≡ suc (m + k) = omega arith in
    ap (next refin n f) (rounds_add refin n f k m r) ∙ sym (ap (λ i. rounds refin n f i r) e)
