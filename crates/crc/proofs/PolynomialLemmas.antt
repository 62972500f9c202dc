-- The arithmetic of polynomials over the field of two elements modulo one of them.
use Rattle.std.proofs.Common.{◌≡◌, ℕ, zero, suc, ◌+◌, ◌*◌, ◌/◌, ◌%◌, ◌^◌, ◌<◌, ◌≤◌, ◌⊎◌, List, [], ◌∷◌, Bool, true, false, not, refl, sym, ap, ap₂, subst₂, ◌∙◌, inl, inr, ⊎_elim, add-zero, zero-mul, mul-one, mul_assoc, mul_right_comm, pow-suc, pow_pos, arith, bit_xor, if◌then◌else◌}
use Rattle.std.proofs.lemmas.Bool.{cases_lt}
use Rattle.std.proofs.Math.Nat.{mul-mod_left}
use Rattle.std.proofs.lemmas.Nat.{shl-shr, shr_split}
use lib.Bits.{xor_assoc, xor_comm, xor_self, xor_zero_r, xor_block, xor_lt, xor_mod, xor_shr}
use Rattle.crc.specs.Polynomial.{product, Congruent}

-- ---- sums

pub sum_swap : (a b c d : ℕ) → bit_xor (bit_xor a b) (bit_xor c d) ≡ bit_xor (bit_xor a c) (bit_xor b d)
sum_swap a b c d =
    xor_assoc a b (bit_xor c d)
    ∙ ap (λ z. bit_xor a z) (sym (xor_assoc b c d) ∙ ap (λ z. bit_xor z d) (xor_comm b c) ∙ xor_assoc c b d)
    ∙ sym (xor_assoc a c (bit_xor b d))

pub sum_cancel : (a b : ℕ) → bit_xor a (bit_xor a b) ≡ b
sum_cancel a b = sym (xor_assoc a a b) ∙ ap (λ z. bit_xor z b) (xor_self a)

pub sum_between : (a b c : ℕ) → bit_xor (bit_xor a b) (bit_xor b c) ≡ bit_xor a c
sum_between a b c = xor_assoc a b (bit_xor b c) ∙ ap (λ z. bit_xor a z) (sum_cancel b c)

pub same_if_no_sum : (a b : ℕ) → bit_xor a b ≡ 0 → a ≡ b
same_if_no_sum a b e = sym (xor_zero_r a) ∙ ap (λ z. bit_xor a z) (sym e) ∙ sum_cancel a b

-- x^k (a + b) = x^k a + x^k b
pub sum_shift : (k a b : ℕ) → bit_xor (a * 2 ^ k) (b * 2 ^ k) ≡ bit_xor a b * 2 ^ k
sum_shift k a b =
    ap₂ bit_xor (sym (add-zero (a * 2 ^ k))) (sym (add-zero (b * 2 ^ k)))
    ∙ xor_block k a b 0 0 (pow_pos k) (pow_pos k) ∙ add-zero (bit_xor a b * 2 ^ k)

sum_twice : (a b : ℕ) → bit_xor (a * 2) (b * 2) ≡ bit_xor a b * 2
sum_twice a b = sum_shift 1 a b

pub shift_suc : (a k : ℕ) → a * 2 ^ suc k ≡ a * 2 ^ k * 2
shift_suc a k = ap (λ z. a * z) (pow-suc 2 k) ∙ sym (mul_assoc a (2 ^ k) 2)

-- ---- the sum of two products

differ : Bool → Bool → Bool
differ true d = not d
differ false d = d

plus : List Bool → List Bool → List Bool
plus [] r = r
plus (c ∷ q) [] = c ∷ q
plus (c ∷ q) (d ∷ r) = differ c d ∷ plus q r

both : (c d : Bool) (g : ℕ) → bit_xor (if c then g else 0) (if d then g else 0) ≡ (if differ c d then g else 0)
unfolding differ
both true true g = xor_self g
both true false g = xor_zero_r g
both false d g = refl

product_plus : (q r : List Bool) (g : ℕ) → bit_xor (product q g) (product r g) ≡ product (plus q r) g
unfolding plus
product_plus [] r g = refl
product_plus (c ∷ q) [] g = xor_zero_r (product (c ∷ q) g)
product_plus (c ∷ q) (d ∷ r) g =
    sum_swap (if c then g else 0) (product q g * 2) (if d then g else 0) (product r g * 2)
    ∙ ap₂ bit_xor (both c d g) (sum_twice (product q g) (product r g) ∙ ap (λ z. z * 2) (product_plus q r g))

-- ---- congruence

pub same : {g : ℕ} (a : ℕ) → Congruent g a a
same a = record { quotient = []; differ_by = xor_self a }

pub back : {g a b : ℕ} → Congruent g a b → Congruent g b a
back {g} {a} {b} p = record { quotient = p.quotient; differ_by = xor_comm b a ∙ p.differ_by }

pub chain : {g a b c : ℕ} → Congruent g a b → Congruent g b c → Congruent g a c
chain {g} {a} {b} {c} p q = record {
  quotient = plus p.quotient q.quotient;
  differ_by = sym (sum_between a b c) ∙ ap₂ bit_xor p.differ_by q.differ_by ∙ product_plus p.quotient q.quotient g;
}

pub sums : {g a b c d : ℕ} → Congruent g a b → Congruent g c d → Congruent g (bit_xor a c) (bit_xor b d)
sums {g} {a} {b} {c} {d} p q = record {
  quotient = plus p.quotient q.quotient;
  differ_by = sum_swap a c b d ∙ ap₂ bit_xor p.differ_by q.differ_by ∙ product_plus p.quotient q.quotient g;
}

pub twice : {g a b : ℕ} → Congruent g a b → Congruent g (a * 2) (b * 2)
twice {g} {a} {b} p = record { quotient = false ∷ p.quotient; differ_by = sum_twice a b ∙ ap (λ z. z * 2) p.differ_by }

pub shifted : {g a b : ℕ} (k : ℕ) → Congruent g a b → Congruent g (a * 2 ^ k) (b * 2 ^ k)
shifted {g} {a} {b} zero p = subst₂ (λ y z. Congruent g y z) (sym (mul-one a)) (sym (mul-one b)) p
shifted {g} {a} {b} (suc k) p = subst₂ (λ y z. Congruent g y z) (sym (shift_suc a k)) (sym (shift_suc b k)) (twice (shifted k p))

-- g itself is congruent to 0.
pub modulus : (g : ℕ) → Congruent g g 0
modulus g = record { quotient = true ∷ []; differ_by = refl }

-- ---- degrees: g has degree w

module _ (w g : ℕ) (high : 2 ^ w ≤ g) (low : g < 2 ^ suc w) where
  kept : (s t : ℕ) → s < 2 ^ suc w → bit_xor s t < 2 ^ suc w → t < 2 ^ suc w
  kept s t a b = let h = xor_lt (suc w) s (bit_xor s t) a b in rw (sum_cancel s t) at h

  product_more : (c : Bool) (q : List Bool) → (product q g ≡ 0) ⊎ (2 ^ w ≤ product q g) → (product (c ∷ q) g ≡ 0) ⊎ (2 ^ w ≤ product (c ∷ q) g)
  product_more true q (inl e) = inr (rw (e, xor_zero_r) high)
  product_more false q (inl e) = inl (rw e refl)
  product_more c q (inr h) = ⊎_elim
      (λ l. let t : product q g * 2 < 2 ^ suc w = kept (if c then g else 0) (product q g * 2) (term c) (omega (arith, pow-suc 2 w)) in absurd (omega (arith, pow-suc 2 w)))
      (λ l. inr l)
      (cases_lt (product (c ∷ q) g) (2 ^ w))
    where
      term : (d : Bool) → (if d then g else 0) < 2 ^ suc w
      term true = low
      term false = pow_pos (suc w)

  -- A multiple of g is 0, or has at least the degree of g.
  pub product_high : (q : List Bool) → (product q g ≡ 0) ⊎ (2 ^ w ≤ product q g)
  product_high [] = inl refl
  product_high (c ∷ q) = product_more c q (product_high q)

  -- Of lower degree than g, congruent polynomials are equal: the remainder by g is unique.
  pub one_remainder : (a b : ℕ) → a < 2 ^ w → b < 2 ^ w → Congruent g a b → a ≡ b
  one_remainder a b below_a below_b p = ⊎_elim
      (λ e. same_if_no_sum a b (p.differ_by ∙ e))
      (λ h. let l = xor_lt w a b below_a below_b in absurd (omega (arith, p.differ_by)))
      (product_high p.quotient)

  module _ (odd : g % 2 ≡ 1) where
    odd_product : (q : List Bool) → product (true ∷ q) g % 2 ≡ 1
    odd_product q =
        let even : product q g * 2 % 2 ≡ 0 = omega arith in
        xor_mod g (product q g * 2) 1 ∙ ap₂ bit_xor odd even

    no_short : (k e : ℕ) (q : List Bool) → e < 2 ^ w → e * 2 ^ k ≡ product q g → e ≡ 0
    no_short zero e q below p = ⊎_elim (λ z. sym (mul-one e) ∙ p ∙ z) (λ h. absurd (omega (arith, mul-one e))) (product_high q)
    no_short (suc k) e [] below p = no_short k e [] below (omega (arith, shift_suc e k))
    no_short (suc k) e (false ∷ q) below p = no_short k e q below (omega (arith, shift_suc e k))
    no_short (suc k) e (true ∷ q) below p = absurd (omega (arith, shift_suc e k, odd_product q))

    -- Where g has a constant term, congruent polynomials that differ only within w places in a row
    -- are equal.
    pub no_burst : (a b k e : ℕ) → Congruent g a b → bit_xor a b ≡ e * 2 ^ k → e < 2 ^ w → a ≡ b
    no_burst a b k e p burst below =
        let z : e ≡ 0 = no_short k e p.quotient below (sym burst ∙ p.differ_by) in
        same_if_no_sum a b (burst ∙ ap (λ y. y * 2 ^ k) z ∙ zero-mul (2 ^ k))

    -- What x^k times a polynomial is a multiple of, that polynomial is.
    pub no_factor : (k e : ℕ) (q : List Bool) → e * 2 ^ k ≡ product q g → (r : List Bool) × (e ≡ product r g)
    no_factor zero e q p = (q, sym (mul-one e) ∙ p)
    no_factor (suc k) e [] p = no_factor k e [] (omega (arith, shift_suc e k))
    no_factor (suc k) e (false ∷ q) p = no_factor k e q (omega (arith, shift_suc e k))
    no_factor (suc k) e (true ∷ q) p = absurd (omega (arith, shift_suc e k, odd_product q))

-- A multiple of a multiple of h.
pub through : (h g : ℕ) → Congruent h g 0 → (q : List Bool) → Congruent h (product q g) 0
through h g p [] = same 0
through h g p (c ∷ q) = sums (term c) (twice (through h g p q))
  where
    term : (d : Bool) → Congruent h (if d then g else 0) 0
    term true = p
    term false = same 0

-- ---- polynomials times x^j, modulo g times x^j

product_scaled : (j g : ℕ) (q : List Bool) → product q (g * 2 ^ j) ≡ product q g * 2 ^ j
product_scaled j g [] = sym (zero-mul (2 ^ j))
product_scaled j g (c ∷ q) =
    ap₂ bit_xor (term c) (ap (λ y. y * 2) (product_scaled j g q) ∙ mul_right_comm (product q g) (2 ^ j) 2)
    ∙ sum_shift j (if c then g else 0) (product q g * 2)
  where
    term : (d : Bool) → (if d then g * 2 ^ j else 0) ≡ (if d then g else 0) * 2 ^ j
    term true = refl
    term false = sym (zero-mul (2 ^ j))

-- What is congruent to a multiple of x^j is one, and all may be divided by x^j.
pub narrowed : (g j a r : ℕ) → Congruent (g * 2 ^ j) (a * 2 ^ j) r → (r ≡ r / 2 ^ j * 2 ^ j) × Congruent g a (r / 2 ^ j)
narrowed g j a r p =
    let P = 2 ^ j in
    let d : bit_xor (a * P) r ≡ product p.quotient g * P = p.differ_by ∙ product_scaled j g p.quotient in
    let none : r % P ≡ 0 =
    ap (λ y. bit_xor y (r % P)) (sym (mul-mod_left a P)) ∙ sym (xor_mod (a * P) r j) ∙ ap (λ y. y % P) d ∙ mul-mod_left (product p.quotient g) P in
    let halves : bit_xor a (r / P) ≡ product p.quotient g =
    ap (λ y. bit_xor y (r / P)) (sym (shl-shr a j)) ∙ sym (xor_shr (a * P) r j) ∙ ap (λ y. y / P) d ∙ shl-shr (product p.quotient g) j in
    (sym (shr_split r j) ∙ ap (λ y. r / P * P + y) none ∙ add-zero (r / P * P), record { quotient = p.quotient; differ_by = halves })
