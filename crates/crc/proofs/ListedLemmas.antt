-- The values of the catalogue, by computing.
use Rattle.std.proofs.Common.{◌≡◌, ℕ, zero, suc, ◌+◌, ◌*◌, ◌/◌, ◌^◌, ◌==◌, List, length, Bool, true, false, ◌&&◌, ltb, sym, ap, subst, ◌∙◌, pow-add, mul_assoc, zero-mul, bit_xor, if◌then◌else◌, codes}
use Rattle.std.proofs.lemmas.Bool.{eqb-true, ltb-true}
use lib.Bits.{xor_assoc, xor_comm, xor_zero_r}
use Rattle.crc.specs.Polynomial.{Congruent}
use Rattle.crc.specs.Crc.{Parameters, in_order, message, generator, dividend, IsCrc}
use Rattle.crc.specs.declared.algorithm.Algorithm.{Algorithm}
use Rattle.crc.specs.Algorithm.{parameters}
use Rattle.crc.specs.Listed.{codeword, IsListed}
use Rattle.crc.proofs.PolynomialLemmas.{sum_cancel, sum_shift, same, back, chain, sums, shifted, modulus}
use Rattle.crc.proofs.RegisterLemmas.{in_order_sum}
use Rattle.crc.proofs.CrcLemmas.{in_order_twice}
use Rattle.crc.proofs.PrimeOrder.{both}

-- The remainder of p, of w + k bits, by g of degree w.
unfoldable pub remainder : (w g k p : ℕ) → ℕ
remainder w g zero p = p
remainder w g (suc k) p = remainder w g k (if p / 2 ^ (w + k) == 1 then bit_xor p (g * 2 ^ k) else p)

remainder_of : (w g k p : ℕ) → Congruent g p (remainder w g k p)
unfolding remainder
remainder_of w g zero p = same p
remainder_of w g (suc k) p = chain (step (p / 2 ^ (w + k) == 1)) (remainder_of w g k (if p / 2 ^ (w + k) == 1 then bit_xor p (g * 2 ^ k) else p))
  where
    none : Congruent g (g * 2 ^ k) 0
    none = subst (λ y. Congruent g (g * 2 ^ k) y) (zero-mul (2 ^ k)) (shifted k (modulus g))

    step : (d : Bool) → Congruent g p (if d then bit_xor p (g * 2 ^ k) else p)
    step true = back (subst (λ y. Congruent g (bit_xor p (g * 2 ^ k)) y) (xor_zero_r p) (sums (same p) none))
    step false = same p

-- The register after a message and its checksum is x^width times `xorout`, whatever the message.
pub after_codeword : (a : Parameters) (bytes : List ℕ) (crc : ℕ) → IsCrc a bytes crc
    → Congruent (generator a) (bit_xor (codeword a bytes crc * 2 ^ a.width) (a.init * 2 ^ (8 * length bytes + a.width))) (in_order a.refout a.width a.xorout * 2 ^ a.width)
after_codeword a bytes crc is =
    let w = a.width in
    let x = in_order a.refout w a.xorout in
    let m = message a.refin bytes * 2 ^ w in
    let i = a.init * 2 ^ (8 * length bytes) in
    let c = in_order a.refout w crc in
    let sent : c ≡ bit_xor is.remainder x =
    ap (in_order a.refout w) is.gives ∙ in_order_sum a.refout w (in_order a.refout w is.remainder) a.xorout
    ∙ ap (λ y. bit_xor y x) (in_order_twice a.refout w is.remainder is.is_below) in
    let moved : bit_xor (codeword a bytes crc * 2 ^ w) (a.init * 2 ^ (8 * length bytes + w)) ≡ bit_xor (bit_xor m i) c * 2 ^ w =
    ap (λ y. bit_xor (codeword a bytes crc * 2 ^ w) y) (ap (λ y. a.init * y) (pow-add 2 (8 * length bytes) w) ∙ sym (mul_assoc a.init (2 ^ (8 * length bytes)) (2 ^ w)))
    ∙ sum_shift w (codeword a bytes crc) i
    ∙ ap (λ y. y * 2 ^ w) (xor_assoc m c i ∙ ap (λ y. bit_xor m y) (xor_comm c i) ∙ sym (xor_assoc m i c)) in
    let all : Congruent (generator a) (bit_xor (bit_xor m i) c) (bit_xor is.remainder c) = sums is.is_remainder (same c) in
    let left : bit_xor is.remainder c ≡ x = ap (λ y. bit_xor is.remainder y) sent ∙ sum_cancel is.remainder x in
    let fact : Congruent (generator a) (bit_xor (bit_xor m i) c) x = subst (λ y. Congruent (generator a) (bit_xor (bit_xor m i) c) y) left all in
    subst (λ y. Congruent (generator a) y (x * 2 ^ w)) (sym moved) (shifted w fact)

-- The entry has the checksum of the text as `check`, and as `residue` what `xorout` times x^width leaves.
unfoldable pub shows_values : Parameters → ℕ → ℕ → Bool
shows_values a check residue =
    let g = generator a in
    let r = remainder a.width g 72 (dividend a (codes "123456789")) in
    let left = remainder a.width g a.width (in_order a.refout a.width a.xorout * 2 ^ a.width) in
    (ltb r (2 ^ a.width) && (check == bit_xor (in_order a.refout a.width r) a.xorout))
    && (ltb residue (2 ^ a.width) && (in_order a.refout a.width residue == left))

pub listed : (a : Algorithm ℕ) → shows_values (parameters (λ n. n) a) a.check a.residue ≡ true → IsListed a
unfolding shows_values
listed a shown =
    let p = parameters (λ n. n) a in
    let g = generator p in
    let r = remainder p.width g 72 (dividend p (codes "123456789")) in
    let added = in_order p.refout p.width p.xorout * 2 ^ p.width in
    let left = remainder p.width g p.width added in
    let parts = both (ltb r (2 ^ p.width) && (a.check == bit_xor (in_order p.refout p.width r) p.xorout)) (ltb a.residue (2 ^ p.width) && (in_order p.refout p.width a.residue == left)) shown in
    let first = both (ltb r (2 ^ p.width)) (a.check == bit_xor (in_order p.refout p.width r) p.xorout) parts.0 in
    let second = both (ltb a.residue (2 ^ p.width)) (in_order p.refout p.width a.residue == left) parts.1 in
    let same_left : in_order p.refout p.width a.residue ≡ left = eqb-true (in_order p.refout p.width a.residue) left second.1 in
    record {
      check = record {
        remainder = r;
        is_below = ltb-true r (2 ^ p.width) first.0;
        is_remainder = remainder_of p.width g 72 (dividend p (codes "123456789"));
        gives = eqb-true a.check (bit_xor (in_order p.refout p.width r) p.xorout) first.1;
      };
      residue = record {
        is_below = ltb-true a.residue (2 ^ p.width) second.0;
        is_remainder = λ bytes crc is.
            chain (after_codeword p bytes crc is) (subst (λ y. Congruent g added y) (sym same_left) (remainder_of p.width g p.width added));
      };
    }
