-- The order of x modulo a generator x^w + poly, by computing: powers of x by squaring, and the primes
-- of the order.
use Rattle.std.specs.Prelude.{ℕ, zero, suc, ◌+◌, ◌*◌, ◌/◌, ◌%◌, ◌^◌, ◌==◌, List, [], ◌∷◌, Bool, true, false, not, ◌&&◌, ◌||◌, ltb, bit_xor, if◌then◌else◌}
use Rattle.crc.specs.Register.{next}

-- The product of the polynomial p and that of the lowest k bits of r, by Horner's rule.
abbrev pub times : ℕ → ℕ → ℕ → ℕ → ℕ → ℕ
times w poly zero r p = 0
times w poly (suc k) r p = bit_xor (if r % 2 == 1 then p else 0) (next false w poly (times w poly k (r / 2) p))

-- x^n, for an n of k bits: the square of x^(n / 2), and times x if n is odd.
abbrev pub power : ℕ → ℕ → ℕ → ℕ → ℕ
power w poly zero n = 1
power w poly (suc k) n =
    let half = power w poly k (n / 2) in
    let square = times w poly w half half in
    if n % 2 == 1 then next false w poly square else square

-- The product of the numbers.
abbrev pub product : List ℕ → ℕ
product [] = 1
product (p ∷ ps) = p * product ps

-- No number from 2 to k + 1 but p itself divides p.
abbrev pub has_none : ℕ → ℕ → Bool
has_none zero p = true
has_none (suc k) p = (not (p % (k + 2) == 0) || (p == k + 2)) && has_none k p

-- The number is a prime below (k + 2)^2.
abbrev pub is_prime : ℕ → ℕ → Bool
is_prime k p = (ltb 1 p && ltb p ((k + 2) * (k + 2))) && has_none k p

-- Each of the numbers is such a prime p, and x^(n / p) is not 1.
abbrev pub are_needed : ℕ → ℕ → ℕ → ℕ → List ℕ → Bool
are_needed w poly k n [] = true
are_needed w poly k n (p ∷ ps) = (is_prime k p && not (power w poly w (n / p) == 1)) && are_needed w poly k n ps

-- The generator has degree w, at least 1. x^n is 1 for the product n of the numbers, and they are
-- primes, below (k + 2)^2, none of which may be left out.
unfoldable pub shows_order : ℕ → ℕ → ℕ → List ℕ → Bool
shows_order w poly k primes =
    let n = product primes in
    (ltb 0 w && ltb poly (2 ^ w)) && ((ltb n (2 ^ w) && (power w poly w n == 1)) && are_needed w poly k n primes)
