-- Euclid's algorithm in a set of numbers that is closed under sums and differences, and what divides a product of primes.
use Rattle.std.proofs.Common.{◌≡◌, ℕ, zero, suc, ◌+◌, ◌*◌, ◌/◌, ◌%◌, ◌<◌, ◌≤◌, ◌⊎◌, ⊎_elim, List, [], ◌∷◌, refl, ap, subst, ◌∙◌, mod-lt, arith}
use Rattle.std.proofs.Math.Nat.{dvd-mul_right, dvd-add, dvd-add_iff_right, eq-one_of_dvd-one}
use Rattle.std.proofs.lemmas.Nat.Gcd.{IsGcd-from_zero, IsGcd-from_mod}
use Rattle.std.specs.Int.{◌∣◌, IsGcd}
use Rattle.std.specs.List.{AllByRecursion}
use Rattle.crc.specs.Order.{product}

module _ (P : ℕ → Type 0) (none : P 0) (more : (m n : ℕ) → P m → P n → P (m + n)) (less : (m n : ℕ) → P m → P (m + n) → P n) where
  pub multiple : (m k : ℕ) → P m → P (m * k)
  multiple m zero p = subst P (omega arith) none
  multiple m (suc k) p = subst P (omega arith) (more m (m * k) p (multiple m k p))

  rest : (a b : ℕ) → P a → P b → P (a % b)
  rest a b p q = less (b * (a / b)) (a % b) (multiple b (a / b) q) (subst P (omega arith) p)

  -- Of two numbers of the set the greatest common divisor is in the set.
  common : (k a b : ℕ) → b ≤ k → P a → P b → (g : ℕ) × IsGcd a b g × P g
  common k a zero le p q = (a, IsGcd-from_zero a 0 refl, p)
  common zero a (suc b) le p q = absurd (omega arith)
  common (suc k) a (suc b) le p q =
      let small : a % suc b < suc b = mod-lt a (omega arith) in
      let found = common k (suc b) (a % suc b) (omega arith) q (rest a (suc b) p q) in
      (found.0, IsGcd-from_mod a (suc b) found.0 found.1, found.2)

  pub common_divisor : (a b : ℕ) → P a → P b → (g : ℕ) × IsGcd a b g × P g
  common_divisor a b p q = common b a b (omega arith) p q

-- Only 1 and the number itself divide it.
abbrev pub IsPrime : ℕ → Type 0
IsPrime p = (q : ℕ) → q ∣ p → (q ≡ 1) ⊎ (q ≡ p)

-- A prime that does not divide c may be left out of what c divides.
without : (p c m : ℕ) → IsPrime p → (p ∣ c → ⊥) → c ∣ p * m → c ∣ m
without p c m prime other divides =
    let found = common_divisor (λ n. c ∣ n * m) (subst (λ x. c ∣ x) (omega arith) (dvd-mul_right c 0))
    (λ x y h k. subst (λ z. c ∣ z) (omega arith) (dvd-add c h k))
    (λ x y h k. (dvd-add_iff_right c h).1 (subst (λ z. c ∣ z) (omega arith) k))
    c p (dvd-mul_right c m) divides in
    ⊎_elim
    (λ one. subst (λ z. c ∣ z) (ap (λ z. z * m) one ∙ omega arith) found.2)
    (λ is. absurd (other (subst (λ z. z ∣ c) is found.1.0)))
    (prime found.0 found.1.1)

-- A number that divides a product of primes, none of which divides it, is 1.
pub none_left : (ps : List ℕ) (c : ℕ) → AllByRecursion IsPrime ps → AllByRecursion (λ p. p ∣ c → ⊥) ps → c ∣ product ps → c ≡ 1
none_left [] c prime other divides = eq-one_of_dvd-one divides
none_left (p ∷ ps) c prime other divides = none_left ps c prime.1 other.1 (without p c (product ps) prime.0 other.0 divides)
