-- The powers of x modulo a generator.
use Rattle.std.proofs.Common.{◌≡◌, ℕ, zero, suc, ◌+◌, ◌^◌, ◌<◌, ◌≤◌, false, refl, sym, subst, one-mul, ⊎_elim, pow_mono, pow-suc, arith}
use Rattle.std.proofs.Math.Nat.{eq-or-lt_of_le}
use Rattle.crc.specs.Polynomial.{Congruent}
use Rattle.crc.specs.Crc.{Parameters, generator, IsValid}
use Rattle.crc.specs.Damage.{HasOrderFrom}
use Rattle.crc.specs.Register.{next, rounds}
use Rattle.crc.proofs.PolynomialLemmas.{back, chain, one_remainder}
use Rattle.crc.proofs.RegisterLemmas.{rounds_below, rounds_is, rounds_more, rounds_none}

-- The power d of x, of degree below the width.
pub power : Parameters → ℕ → ℕ
power a d = rounds false a.width a.poly d 1

pub power_none : (a : Parameters) → 1 ≡ power a 0
unfolding power
power_none a = sym (rounds_none false a.width a.poly 1)

pub power_more : (a : Parameters) (d : ℕ) → next false a.width a.poly (power a d) ≡ power a (d + 1)
unfolding power
power_more a d = sym (rounds_more false a.width a.poly d 1)

module _ (n : ℕ) (a : Parameters) (valid : IsValid n a) where
  one_below : 1 < 2 ^ a.width
  one_below = let h : 2 ^ 1 ≤ 2 ^ a.width = pow_mono valid.some in omega arith

  pub power_is : (d : ℕ) → (power a d < 2 ^ a.width) × Congruent (generator a) (power a d) (2 ^ d)
  unfolding power
  power_is d = by a.width valid.some valid.degree one_below
    where
      by : (w : ℕ) → 1 ≤ w → a.poly < 2 ^ w → 1 < 2 ^ w → (rounds false w a.poly d 1 < 2 ^ w) × Congruent (2 ^ w + a.poly) (rounds false w a.poly d 1) (2 ^ d)
      by zero some degree below = absurd (omega arith)
      by (suc v) some degree below = (
        rounds_below v a.poly a.poly degree false d 1 below,
        subst (λ y. Congruent (2 ^ suc v + a.poly) (rounds false (suc v) a.poly d 1) y) (one-mul (2 ^ d)) (rounds_is v a.poly a.poly degree false refl d 1 below),
      )

  -- No power before the first has been seen, and one more that isn't 1 keeps the order from falling.
  pub order_none : HasOrderFrom 1 a
  order_none d some few h = absurd (omega arith)

  pub order_more : (d : ℕ) → HasOrderFrom d a → (power a d ≡ 1 → ⊥) → HasOrderFrom (d + 1) a
  order_more d order other k some few h = ⊎_elim
      (λ e. other (one_remainder a.width (generator a) high low (power a d) 1 (power_is d).0 one_below
      (chain (power_is d).1 (subst (λ i. Congruent (generator a) (2 ^ i) 1) e h))))
      (λ less. order k some less h)
      (eq-or-lt_of_le (omega arith))
    where
      high : 2 ^ a.width ≤ generator a
      high = omega arith

      low : generator a < 2 ^ suc a.width
      low = omega (arith, valid.degree, pow-suc 2 a.width)

  pub order_fewer : (d e : ℕ) → e ≤ d → HasOrderFrom d a → HasOrderFrom e a
  order_fewer d e le order k some few h = order k some (omega arith) h

  pub is_one : (d : ℕ) → power a d ≡ 1 → Congruent (generator a) (2 ^ d) 1
  is_one d e = subst (λ y. Congruent (generator a) (2 ^ d) y) e (back (power_is d).1)
