-- The order of x by the primes of the number that it is.
use Rattle.std.proofs.Common.{◌≡◌, ℕ, zero, suc, ◌+◌, ◌*◌, ◌/◌, ◌%◌, ◌^◌, ◌<◌, ◌≤◌, ◌⊎◌, ◌==◌, inl, inr, ⊎_elim, Bool, true, false, not, ◌&&◌, ◌||◌, ltb, List, [], ◌∷◌, refl, sym, ap, subst, subst₂, ◌∙◌, one-mul, pow-add, pow-suc, pow_mono, mul-le-mul, arith}
use Rattle.std.proofs.Math.Nat.{dvd-mul_right, div-mul_cancel, mul-div_cancel, div-le_self, pos_of_dvd_of_pos, eq_of_mul-eq-mul_right, eq-or-lt_of_le}
use Rattle.std.proofs.lemmas.Nat.Gcd.{le_of_dvd, mod-eq-zero_of_dvd}
use Rattle.std.proofs.lemmas.Bool.{eqb-true, eq-eqb, ltb-true, cases_lt, not-true, true≢false}
use Rattle.std.specs.Int.{◌∣◌}
use Rattle.std.specs.List.{AllByRecursion}
use Rattle.crc.specs.Polynomial.{Congruent}
use Rattle.crc.specs.Crc.{Parameters, generator}
use Rattle.crc.specs.Damage.{HasOrderFrom}
use Rattle.crc.specs.Order.{power, product, has_none, is_prime, are_needed, shows_order}
use Rattle.crc.proofs.PolynomialLemmas.{same, back, chain, shifted, one_remainder}
use Rattle.crc.proofs.PowerLemmas.{power_below, power_is}
use Rattle.crc.proofs.Divisors.{multiple, common_divisor, IsPrime, none_left}

pub both : (x y : Bool) → (x && y) ≡ true → (x ≡ true) × (y ≡ true)
both true y e = (refl, e)
both false y e = absurd (true≢false (sym e))

-- ---- primes

-- What passes the test for each number from 2 to k + 1 has none of them but itself for a divisor.
none_of : (k p : ℕ) → has_none k p ≡ true → (q : ℕ) → 2 ≤ q → q < k + 2 → q ∣ p → q ≡ p
none_of zero p h q some few divides = absurd (omega arith)
none_of (suc k) p h q some few divides =
    let tests = both (not (p % (k + 2) == 0) || (p == k + 2)) (has_none k p) h in
    ⊎_elim
    (λ is. is ∙ sym (last (p % (k + 2) == 0) (eq-eqb (p % (k + 2)) 0 (mod-eq-zero_of_dvd (k + 2) (subst (λ y. y ∣ p) is divides))) tests.0))
    (λ less. none_of k p tests.1 q some less divides)
    (eq-or-lt_of_le (omega arith))
  where
    last : (t : Bool) → t ≡ true → (not t || (p == k + 2)) ≡ true → p ≡ k + 2
    last true e h = eqb-true p (k + 2) h
    last false e h = absurd (true≢false (sym e))

prime_of : (k p : ℕ) → is_prime k p ≡ true → IsPrime p
prime_of k p h q divides =
    let tests = both (ltb 1 p && ltb p ((k + 2) * (k + 2))) (has_none k p) h in
    let sizes = both (ltb 1 p) (ltb p ((k + 2) * (k + 2))) tests.0 in
    by q divides tests.1 (ltb-true 1 p sizes.0) (ltb-true p ((k + 2) * (k + 2)) sizes.1)
  where
    -- q is not below k + 2, and c q = p.
    beyond : (q c : ℕ) → k + 2 ≤ q → c * q ≡ p → has_none k p ≡ true → 1 < p → p < (k + 2) * (k + 2) → (q ≡ 1) ⊎ (q ≡ p)
    beyond q zero far e none some few = absurd (omega arith)
    beyond q (suc zero) far e none some few = inr (omega arith)
    beyond q (suc (suc c)) far e none some few = ⊎_elim
        (λ near.
        let is : suc (suc c) ≡ p = none_of k p none (suc (suc c)) (omega arith) near (subst (λ y. suc (suc c) ∣ y) e (dvd-mul_right (suc (suc c)) q)) in
        inl (eq_of_mul-eq-mul_right p (omega arith) q 1 (mul_comm' q p ∙ ap (λ y. y * q) (sym is) ∙ e ∙ sym (one-mul p))))
        (λ less. let big : (k + 2) * (k + 2) ≤ suc (suc c) * q = mul-le-mul less far in absurd (omega arith))
        (cases_lt (suc (suc c)) (k + 2))
      where
        mul_comm' : (x y : ℕ) → x * y ≡ y * x
        mul_comm' x y = omega arith

    by : (q : ℕ) → q ∣ p → has_none k p ≡ true → 1 < p → p < (k + 2) * (k + 2) → (q ≡ 1) ⊎ (q ≡ p)
    by zero divides none some few = absurd (let e = div-mul_cancel zero divides in omega arith)
    by (suc zero) divides none some few = inl refl
    by (suc (suc q)) divides none some few = ⊎_elim
        (λ near. inr (none_of k p none (suc (suc q)) (omega arith) near divides))
        (λ far. beyond (suc (suc q)) (p / suc (suc q)) far (div-mul_cancel (suc (suc q)) divides) none some few)
        (cases_lt (suc (suc q)) (k + 2))

mapped : {P Q : ℕ → Type 0} → ((p : ℕ) → P p → Q p) → (ps : List ℕ) → AllByRecursion P ps → AllByRecursion Q ps
mapped f [] h = tt
mapped f (p ∷ ps) h = (f p h.0, mapped f ps h.1)

-- ---- the order

module _ (a : Parameters) (some_width : 0 < a.width) (degree : a.poly < 2 ^ a.width) where
  -- x^n is congruent to 1.
  One : ℕ → Type 0
  One n = Congruent (generator a) (2 ^ n) 1

  none : One 0
  unfolding One
  none = same 1

  more : (m n : ℕ) → One m → One n → One (m + n)
  unfolding One
  more m n p q =
      let both_powers : Congruent (generator a) (2 ^ (m + n)) (2 ^ n) = subst₂ (λ y z. Congruent (generator a) y z) (sym (pow-add 2 m n)) (one-mul (2 ^ n)) (shifted n p) in
      chain both_powers q

  less : (m n : ℕ) → One m → One (m + n) → One n
  unfolding One
  less m n p q =
      let both_powers : Congruent (generator a) (2 ^ (m + n)) (2 ^ n) = subst₂ (λ y z. Congruent (generator a) y z) (sym (pow-add 2 m n)) (one-mul (2 ^ n)) (shifted n p) in
      chain (back both_powers) q

  -- What is computed for x^n.
  found : ℕ → ℕ
  found n = power a.width a.poly a.width n

  computed : (n : ℕ) → n < 2 ^ a.width → (found n < 2 ^ a.width) × Congruent (generator a) (found n) (2 ^ n)
  unfolding found
  computed n few = by a.width some_width degree few
    where
      by : (w : ℕ) → 1 ≤ w → a.poly < 2 ^ w → n < 2 ^ w → (power w a.poly w n < 2 ^ w) × Congruent (2 ^ w + a.poly) (power w a.poly w n) (2 ^ n)
      by zero some degree few = absurd (omega arith)
      by (suc v) some degree few = (power_below v a.poly degree (suc v) n few, power_is v a.poly degree (suc v) n few)

  is_one : (n : ℕ) → n < 2 ^ a.width → found n ≡ 1 → One n
  unfolding One
  is_one n few e = subst (λ y. Congruent (generator a) (2 ^ n) y) e (back (computed n few).1)

  is_found : (n : ℕ) → n < 2 ^ a.width → One n → found n ≡ 1
  unfolding One
  is_found n few h = one_remainder a.width (generator a) high low (found n) 1 (computed n few).0 one_below (chain (computed n few).1 h)
    where
      high : 2 ^ a.width ≤ generator a
      high = omega arith

      low : generator a < 2 ^ suc a.width
      low = omega (arith, degree, pow-suc 2 a.width)

      one_below : 1 < 2 ^ a.width
      one_below = let h : 2 ^ 1 ≤ 2 ^ a.width = pow_mono some_width in omega arith

  -- A proper divisor e of n with x^e = 1 divides n / p for a prime p.
  spoilt : (n c e p : ℕ) → 0 < n → c * e ≡ n → One e → p ∣ c → One (n / p)
  spoilt n c e p some is h divides =
      let p_some : 0 < p = pos_of_dvd_of_pos divides (c_some c is) in
      let whole : c / p * e * p ≡ n = turned (c / p) e p ∙ ap (λ y. y * e) (div-mul_cancel p divides) ∙ is in
      let quotient : n / p ≡ e * (c / p) = ap (λ y. y / p) (sym whole) ∙ mul-div_cancel (c / p * e) p_some ∙ swapped (c / p) e in
      subst One (sym quotient) (multiple One none more less e (c / p) h)
    where
      c_some : (x : ℕ) → x * e ≡ n → 0 < x
      c_some zero is = absurd (omega arith)
      c_some (suc x) is = omega arith

      turned : (x y z : ℕ) → x * y * z ≡ x * z * y
      turned x y z = omega arith

      swapped : (x y : ℕ) → x * y ≡ y * x
      swapped x y = omega arith

  primes_of : (k n : ℕ) (ps : List ℕ) → are_needed a.width a.poly k n ps ≡ true → AllByRecursion IsPrime ps × AllByRecursion (λ p. found (n / p) ≡ 1 → ⊥) ps
  unfolding found
  primes_of k n [] h = (tt, tt)
  primes_of k n (p ∷ ps) h =
      let parts = both (is_prime k p && not (found (n / p) == 1)) (are_needed a.width a.poly k n ps) h in
      let first = both (is_prime k p) (not (found (n / p) == 1)) parts.0 in
      let others = primes_of k n ps parts.1 in (
        (prime_of k p first.0, others.0),
        ((λ e. true≢false (sym (eq-eqb (found (n / p)) 1 e) ∙ not-true (found (n / p) == 1) first.1)), others.1),
      )

  order_is : (k : ℕ) (primes : List ℕ) → let n = product primes in n < 2 ^ a.width → found n ≡ 1 → are_needed a.width a.poly k n primes ≡ true → HasOrderFrom n a × One n
  unfolding One
  order_is k primes few ends needed = (below_it, is_one (product primes) few ends)
    where
      smaller : (x y : ℕ) → x ≤ y → y < 2 ^ a.width → x < 2 ^ a.width
      smaller x y h few = omega arith

      below_it : HasOrderFrom (product primes) a
      below_it d some near is =
          let n = product primes in
          let all = primes_of k n primes needed in
          let common = common_divisor One none more less d n is (is_one n few ends) in
          let e = common.0 in
          let small : e ≤ d = le_of_dvd some common.1.0 in
          let c = n / e in
          let whole : c * e ≡ n = div-mul_cancel e common.1.1 in
          let positive : 0 < n = omega arith in
          let one : c ≡ 1 = none_left primes c all.0
          (mapped (λ p other divides. other (is_found (n / p) (smaller (n / p) n (div-le_self n p) few) (spoilt n c e p positive whole common.2 divides))) primes all.1)
          (subst (λ y. c ∣ y) whole (dvd-mul_right c e)) in
          let same_number : e ≡ n = sym (one-mul e) ∙ ap (λ y. y * e) (sym one) ∙ whole in
          absurd (omega arith)

-- What is computed shows the order of x.
pub order_of : (a : Parameters) (k : ℕ) (primes : List ℕ) → shows_order a.width a.poly k primes ≡ true
    → HasOrderFrom (product primes) a × Congruent (generator a) (2 ^ product primes) 1
unfolding shows_order One found
order_of a k primes shown =
    let w = a.width in let poly = a.poly in let n = product primes in
    let parts = both (ltb 0 w && ltb poly (2 ^ w)) ((ltb n (2 ^ w) && (power w poly w n == 1)) && are_needed w poly k n primes) shown in
    let degree = both (ltb 0 w) (ltb poly (2 ^ w)) parts.0 in
    let rest = both (ltb n (2 ^ w) && (power w poly w n == 1)) (are_needed w poly k n primes) parts.1 in
    let ends = both (ltb n (2 ^ w)) (power w poly w n == 1) rest.0 in
    order_is a (ltb-true 0 w degree.0) (ltb-true poly (2 ^ w) degree.1) k primes (ltb-true n (2 ^ w) ends.0) (eqb-true (power w poly w n) 1 ends.1) rest.1
