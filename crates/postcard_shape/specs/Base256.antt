-- Numbers as bytes in base 256, as many bytes as their type has: the lowest first, or the highest
-- first (behaviour of postcard 1.1.3, module `fixint`).
use Rattle.std.specs.Prelude.{◌≡◌, ℕ, zero, suc, ◌+◌, ◌*◌, ◌/◌, ◌%◌, ◌<◌, ◌^◌, List, [], ◌∷◌, ◌++◌}
use Rattle.std.specs.Prelude.{length, reverse}
use Rattle.std.proofs.Common.{refl, sym, ap, ap₂, subst, ◌∙◌, arith}
use Rattle.std.proofs.Math.Nat.{pow-suc}
use Rattle.std.proofs.lemmas.List.{reverse-append, reverse-reverse, length-reverse}
use Rattle.postcard_shape.specs.Leaves.{byte}
use Rattle.postcard_shape.specs.Lists.{AllFit}

-- The value of bytes in base 256, the lowest first: the sum of byte * 256 ^ place.
abbrev pub low_value : List ℕ → ℕ
low_value [] = 0
low_value (b ∷ bs) = b + 256 * low_value bs

-- The k bytes of a number below 256 ^ k, the lowest first.
abbrev pub low_first : ℕ → ℕ → List ℕ
low_first zero n = []
low_first (suc k) n = n % 256 ∷ low_first k (n / 256)

-- Each element is below 256.
abbrev pub AreBytes : List ℕ → Type 0
AreBytes = AllFit byte.fits

-- The bytes p are the number n: there are k of them, each below 256, and n is their value.
pub record AreNumber (value : List ℕ → ℕ) (k n : ℕ) (p : List ℕ) : Type 0 where
  pub count : length p ≡ k
  pub bytes : AreBytes p
  pub value_is : value p ≡ n

-- An order of bytes: the lowest first, or the highest first.
pub record Order : Type 0 where
  -- The k bytes of a number below 256 ^ k.
  pub spell : ℕ → ℕ → List ℕ
  -- The value of bytes in base 256.
  pub value : List ℕ → ℕ
  -- `spell k n` is k bytes whose value is n, and no other k bytes have that value.
  pub counts : (k n : ℕ) → length (spell k n) ≡ k
  pub bytes : (k n : ℕ) → AreBytes (spell k n)
  pub worth : (k n : ℕ) → n < 256 ^ k → value (spell k n) ≡ n
  pub one : (p q : List ℕ) → length p ≡ length q → AreBytes p → AreBytes q → value p ≡ value q
      → p ≡ q

-- `low_first k n` has k elements.
pub low_counts : (k n : ℕ) → length (low_first k n) ≡ k
low_counts zero n = refl
low_counts (suc k) n = ap (λ i. suc i) (low_counts k (n / 256))

-- Each element of `low_first k n` is a byte.
pub low_bytes : (k n : ℕ) → AreBytes (low_first k n)
low_bytes zero n = tt
low_bytes (suc k) n = (omega arith, low_bytes k (n / 256))

-- The value of `low_first k n` is n, if n is below 256 ^ k.
pub low_worth : (k n : ℕ) → n < 256 ^ k → low_value (low_first k n) ≡ n
low_worth zero n f = omega arith
low_worth (suc k) n f =
    let p = pow-suc 256 k in
    let below : n / 256 < 256 ^ k = omega arith in
    let rest = low_worth k (n / 256) below in
    omega arith

-- No other bytes of the same count have the same value.
pub low_one : (p q : List ℕ) → length p ≡ length q → AreBytes p → AreBytes q
    → low_value p ≡ low_value q → p ≡ q
low_one [] [] l f g e = refl
low_one [] (c ∷ q) l f g e = absurd (omega arith)
low_one (b ∷ p) [] l f g e = absurd (omega arith)
low_one (b ∷ p) (c ∷ q) l f g e =
    let first : b ≡ c = omega (arith, f.0, g.0) in
    let rest : low_value p ≡ low_value q = omega (arith, f.0, g.0) in
    ap₂ (λ (n : ℕ) (ns : List ℕ). n ∷ ns) first (low_one p q (omega arith) f.1 g.1 rest)

-- The lowest byte first: little-endian.
abbrev pub little : Order
little = record {
  spell = low_first;
  value = low_value;
  counts = low_counts;
  bytes = low_bytes;
  worth = low_worth;
  one = low_one;
}

joined_bytes : (xs ys : List ℕ) → AreBytes xs → AreBytes ys → AreBytes (xs ++ ys)
joined_bytes [] ys h f = f
joined_bytes (x ∷ xs) ys h f = (h.0, joined_bytes xs ys h.1 f)

-- Reversed bytes are bytes.
pub reversed_bytes : (xs : List ℕ) → AreBytes xs → AreBytes (reverse xs)
reversed_bytes [] h = tt
reversed_bytes (x ∷ xs) h =
    let turned = joined_bytes (reverse xs) (x ∷ []) (reversed_bytes xs h.1) (h.0, tt) in
    subst AreBytes (sym (reverse-append (x ∷ []) xs)) turned

-- The same with the highest byte first: no other bytes of the same count have the same value.
pub high_one : (p q : List ℕ) → length p ≡ length q → AreBytes p → AreBytes q
    → low_value (reverse p) ≡ low_value (reverse q) → p ≡ q
high_one p q l f g e =
    let counts = length-reverse p ∙ l ∙ sym (length-reverse q) in
    let turned = low_one _ _ counts (reversed_bytes p f) (reversed_bytes q g) e in
    sym (reverse-reverse p) ∙ ap reverse turned ∙ reverse-reverse q

-- The highest byte first: big-endian.
abbrev pub big : Order
big = record {
  spell = λ k n. reverse (low_first k n);
  value = λ bs. low_value (reverse bs);
  counts = λ k n. length-reverse (low_first k n) ∙ low_counts k n;
  bytes = λ k n. reversed_bytes (low_first k n) (low_bytes k n);
  worth = λ k n f. ap low_value (reverse-reverse (low_first k n)) ∙ low_worth k n f;
  one = high_one;
}
