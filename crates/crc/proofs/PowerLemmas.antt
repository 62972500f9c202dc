-- Powers of x by squaring.
use Rattle.std.proofs.Common.{◌≡◌, ℕ, zero, suc, ◌+◌, ◌*◌, ◌/◌, ◌%◌, ◌^◌, ◌<◌, ◌==◌, false, refl, sym, ap, subst, ◌∙◌, pow-suc, pow-add, pow_pos, zero-mul, arith, bit_xor, if◌then◌else◌}
use Rattle.std.proofs.lemmas.Nat.{shr_split}
use lib.Bits.{xor_comm, xor_shifted, xor_lt}
use Rattle.crc.specs.Polynomial.{Congruent}
use Rattle.crc.specs.Register.{next, rounds}
use Rattle.crc.specs.Order.{times, power}
use Rattle.crc.proofs.PolynomialLemmas.{same, chain, sums, twice, shifted, sum_shift}
use Rattle.crc.proofs.RegisterLemmas.{rounds_below, rounds_is}

module _ (v poly : ℕ) (degree : poly < 2 ^ suc v) where
  abbrev w : ℕ
  w = suc v

  abbrev g : ℕ
  g = 2 ^ suc v + poly

  -- A polynomial of degree below w that is congruent to a.
  pub Is : ℕ → ℕ → Type 0
  Is p a = (p < 2 ^ w) × Congruent g p a

  more : (p a : ℕ) → Is p a → Is (next false w poly p) (a * 2)
  unfolding rounds Is
  more p a h = (
    rounds_below v poly poly degree false 1 p h.0,
    chain (rounds_is v poly poly degree false refl 1 p h.0) (twice h.1),
  )

  -- By one digit of r.
  digit : (d p m : ℕ) → d < 2 → Is p (2 ^ m) → Is (if d == 1 then p else 0) (d * 2 ^ m)
  unfolding Is
  digit zero p m h is = (pow_pos w, subst (λ z. Congruent g 0 z) (sym (zero-mul (2 ^ m))) (same 0))
  digit (suc zero) p m h is = subst (λ z. Is p z) (omega arith) is
  digit (suc (suc d)) p m h is = absurd (omega arith)

  times_is : (k r p m : ℕ) → r < 2 ^ k → Is p (2 ^ m) → Is (times w poly k r p) (r * 2 ^ m)
  unfolding Is
  times_is zero r p m below is =
      let none : r ≡ 0 = omega arith in
      (pow_pos w, subst (λ z. Congruent g 0 z) (sym (ap (λ y. y * 2 ^ m) none ∙ zero-mul (2 ^ m))) (same 0))
  times_is (suc k) r p m below is =
      let half : r / 2 < 2 ^ k = omega (arith, pow-suc 2 k) in
      let bit : r % 2 < 2 = omega arith in
      let upper = more (times w poly k (r / 2) p) (r / 2 * 2 ^ m) (times_is k (r / 2) p m half is) in
      let lower = digit (r % 2) p m bit is in
      let whole : bit_xor (r % 2) (r / 2 * 2) ≡ r = xor_comm (r % 2) (r / 2 * 2) ∙ xor_shifted (r / 2) 1 (r % 2) bit ∙ shr_split r 1 in
      let swapped : r / 2 * 2 ^ m * 2 ≡ r / 2 * 2 * 2 ^ m = moved (r / 2) (2 ^ m) in
      let sum : bit_xor (r % 2 * 2 ^ m) (r / 2 * 2 ^ m * 2) ≡ r * 2 ^ m =
      ap (bit_xor (r % 2 * 2 ^ m)) swapped ∙ sum_shift m (r % 2) (r / 2 * 2) ∙ ap (λ y. y * 2 ^ m) whole in
      (xor_lt w _ _ lower.0 upper.0, subst (λ z. Congruent g (times w poly (suc k) r p) z) sum (sums lower.1 upper.1))
    where
      moved : (x y : ℕ) → x * y * 2 ≡ x * 2 * y
      moved x y = omega arith

  square_is : (p m : ℕ) → Is p (2 ^ m) → Is (times w poly w p p) (2 ^ (m + m))
  unfolding Is
  square_is p m is =
      let t = times_is w p p m is.0 is in
      (t.0, subst (λ z. Congruent g (times w poly w p p) z) (sym (pow-add 2 m m)) (chain t.1 (shifted m is.1)))

  -- x^n, by n's lowest digit.
  raised : (d s h n : ℕ) → d < 2 → n ≡ h + h + d → Is s (2 ^ (h + h)) → Is (if d == 1 then next false w poly s else s) (2 ^ n)
  raised zero s h n few e is = let same_power : h + h ≡ n = omega arith in subst (λ z. Is s (2 ^ z)) same_power is
  raised (suc zero) s h n few e is =
      let is_next : suc (h + h) ≡ n = omega arith in
      let doubled : 2 ^ (h + h) * 2 ≡ 2 ^ n = sym (pow-suc 2 (h + h)) ∙ ap (λ z. 2 ^ z) is_next in
      subst (λ z. Is (next false w poly s) z) doubled (more s (2 ^ (h + h)) is)
  raised (suc (suc d)) s h n few e is = absurd (omega arith)

  pub power_of : (k n : ℕ) → n < 2 ^ k → Is (power w poly k n) (2 ^ n)
  unfolding Is
  power_of zero n below =
      let none : n ≡ 0 = omega arith in
      let one : 1 < 2 ^ w = let h = pow_pos v in omega (arith, pow-suc 2 v, h) in
      (one, subst (λ z. Congruent g 1 (2 ^ z)) (sym none) (same 1))
  power_of (suc k) n below =
      let half : n / 2 < 2 ^ k = omega (arith, pow-suc 2 k) in
      raised (n % 2) (times w poly w (power w poly k (n / 2)) (power w poly k (n / 2))) (n / 2) n (omega arith) (omega arith)
      (square_is (power w poly k (n / 2)) (n / 2) (power_of k (n / 2) half))

  pub power_below : (k n : ℕ) → n < 2 ^ k → power w poly k n < 2 ^ w
  unfolding Is
  power_below k n below = (power_of k n below).0

  pub power_is : (k n : ℕ) → n < 2 ^ k → Congruent g (power w poly k n) (2 ^ n)
  unfolding Is
  power_is k n below = (power_of k n below).1
