-- Checksums by a register of 32 bits, whose lowest bit is the highest coefficient.
use Rattle.std.proofs.Common.{◌≡◌, ℕ, zero, suc, ◌+◌, ◌*◌, ◌^◌, ◌<◌, List, [], ◌∷◌, ◌++◌, Bool, true, false, refl, sym, ap, ap₂, subst, subst₂, ◌∙◌, mul_assoc, mul_right_comm, zero-mul, pow_pos, pow-add, arith, bit_xor, if◌then◌else◌, bit_and, mod-eq_of_lt}
use Rattle.std.specs.Int.{reverse_bits_onto}
use lib.Bits.{xor_assoc, xor_self, xor_zero_r, xor_lt, and_mask}
use Rattle.crc.specs.Polynomial.{product, Congruent}
use Rattle.crc.specs.Crc.{Parameters, in_order, generator, dividend, IsCrc}
use Rattle.crc.specs.Register.{gap, feedback, rounds, first_byte, Holds, Takes, read}
use Rattle.crc.proofs.PolynomialLemmas.{sum_shift}
use Rattle.crc.proofs.ReflectionLemmas.{mirror, is_mirror, mirror_below, mirror_short, mirror_twice}
use Rattle.crc.proofs.RegisterLemmas.{in_order_below, in_order_sum, rounds_below, rounds_is, first_is}
use Rattle.crc.proofs.CrcLemmas.{in_order_twice, lifted_below, lifted_generator, feedback_below, holds_byte, reads}
use Rattle.postcard_c.specs.Checksums.{crc_16, crc_32, Reflects}

-- The register that has taken one byte more.
pub byte_taken : (a : Parameters) (f y r b : ℕ) (m : List ℕ) → Reflects a f y → b < 256
    → Holds 32 a r m → Holds 32 a (rounds true 32 f 8 (bit_xor r b)) (m ++ b ∷ [])
byte_taken a f y r b m is byte h =
    let g = feedback 32 a in
    let p = a.poly * 2 ^ gap 32 a in
    let fits : g < 2 ^ 32 = feedback_below 32 a is.valid in
    let at : in_order a.refin 32 g ≡ p =
    in_order_twice a.refin 32 p (lifted_below 32 a is.valid.narrow a.poly is.valid.degree) in
    let x = bit_xor r b in
    let s = rounds a.refin 32 g 8 x in
    let R = in_order a.refin 32 r in
    let B = in_order a.refin 8 b in
    let byte_at : in_order a.refin 32 b ≡ B * 2 ^ 24 =
    ap (λ o. in_order a.refin 32 (first_byte o 32 b)) (sym is.refin)
    ∙ (first_is 31 g p fits a.refin at 24 refl b byte).1 in
    let small : b < 2 ^ 32 = omega arith in
    let below : x < 2 ^ 32 = xor_lt 32 r b h.is_below small in
    let e : in_order a.refin 32 x * 2 ^ 8 ≡ bit_xor (R * 2 ^ 8) (B * 2 ^ 32) =
    ap (λ z. z * 2 ^ 8) (in_order_sum a.refin 32 r b ∙ ap (bit_xor R) byte_at)
    ∙ sym (sum_shift 8 R (B * 2 ^ 24)) ∙ ap (bit_xor (R * 2 ^ 8)) (mul_assoc B (2 ^ 24) (2 ^ 8)) in
    let takes : Takes 32 a 8 r B s =
    subst₂ (λ n z. Congruent n (in_order a.refin 32 s) z) (lifted_generator 32 a is.valid.narrow) e
    (rounds_is 31 g p fits a.refin at 8 x below) in
    subst (λ z. Holds 32 a z (m ++ b ∷ [])) (ap₂ (λ o z. rounds o 32 z 8 x) is.refin (sym is.feeds))
    (holds_byte 32 a is.valid.narrow r s b m byte (rounds_below 31 g p fits a.refin 8 x below) takes h)

-- A multiple of x^j g is x^j times a multiple of g.
product_lifted : (j g : ℕ) (q : List Bool) → product q g * 2 ^ j ≡ product q (g * 2 ^ j)
product_lifted j g [] = zero-mul (2 ^ j)
product_lifted j g (c ∷ q) =
    sym (sum_shift j (if c then g else 0) (product q g * 2))
    ∙ ap₂ bit_xor (term c) (mul_right_comm (product q g) 2 (2 ^ j) ∙ ap (λ y. y * 2) (product_lifted j g q))
  where
    term : (d : Bool) → (if d then g else 0) * 2 ^ j ≡ (if d then g * 2 ^ j else 0)
    term true = refl
    term false = zero-mul (2 ^ j)

-- The register whose checksum is read.
pub opened : (a : Parameters) (f y crc : ℕ) (m : List ℕ) → Reflects a f y → IsCrc a m crc
    → Holds 32 a (bit_xor crc y) m
opened a f y crc m is c =
    let w = a.width in
    let j = gap 32 a in
    let narrow = is.valid.narrow in
    let size : 32 ≡ w + j = omega arith in
    let R = mirror w c.remainder in
    let R_below : R < 2 ^ w = mirror_below w c.remainder in
    let whole : 2 ^ w * 2 ^ j ≡ 2 ^ 32 = sym (ap (λ i. 2 ^ i) size ∙ pow-add 2 w j) in
    let gives : crc ≡ bit_xor R a.xorout =
    c.gives ∙ ap (λ o. bit_xor (in_order o w c.remainder) a.xorout) is.refout
    ∙ ap (λ z. bit_xor z a.xorout) (is_mirror w c.remainder) in
    let r_is : bit_xor crc y ≡ R =
    ap₂ bit_xor gives is.adds ∙ xor_assoc R a.xorout a.xorout
    ∙ ap (bit_xor R) (xor_self a.xorout) ∙ xor_zero_r R in
    let held : in_order a.refin 32 (bit_xor crc y) ≡ c.remainder * 2 ^ j =
    ap₂ (λ o z. in_order o 32 z) is.refin r_is ∙ is_mirror 32 R ∙ mirror_short w j 32 R size R_below
    ∙ ap (λ z. z * 2 ^ j) (mirror_twice w c.remainder c.is_below) in
    record {
      is_below = subst (λ z. z < 2 ^ 32) (sym r_is) (larger R (2 ^ w) (2 ^ j) (2 ^ 32) R_below (pow_pos j) whole);
      is_remainder = record {
        quotient = c.is_remainder.quotient;
        differ_by =
            ap (bit_xor (dividend a m * 2 ^ j)) held ∙ sum_shift j (dividend a m) c.remainder
            ∙ ap (λ z. z * 2 ^ j) c.is_remainder.differ_by
            ∙ product_lifted j (generator a) c.is_remainder.quotient;
      };
    }
  where
    larger : (n k q t : ℕ) → n < k → 0 < q → k * q ≡ t → n < t
    larger n k zero t h pos e = absurd (omega arith)
    larger n k (suc q) t h pos e = omega arith

-- The checksum that is read of a register.
pub closed : (a : Parameters) (f y r : ℕ) (m : List ℕ) → Reflects a f y → Holds 32 a r m
    → IsCrc a m (bit_xor r y)
closed a f y r m is h =
    subst (IsCrc a m)
    (ap₂ bit_xor (ap₂ (λ i o. read i o 32 (gap 32 a) r) is.refin is.refout) (sym is.adds))
    (reads 32 a is.valid.narrow r m h)

-- A checksum has no more bits than the algorithm.
pub crc_below : (a : Parameters) (m : List ℕ) (crc : ℕ) → a.xorout < 2 ^ a.width → IsCrc a m crc
    → crc < 2 ^ a.width
crc_below a m crc added c =
    subst (λ z. z < 2 ^ a.width) (sym c.gives)
    (xor_lt a.width (in_order a.refout a.width c.remainder) a.xorout
    (in_order_below a.refout a.width c.remainder c.is_below) added)

-- The lowest 16 bits of a checksum of 16 bits.
pub low_bits_16 : (m : List ℕ) (crc : ℕ) → IsCrc crc_16 m crc → IsCrc crc_16 m (bit_and crc 0xffff)
low_bits_16 m crc c =
    let added : 0xffff < 2 ^ 16 = omega arith in
    subst (IsCrc crc_16 m) (sym (and_mask crc 16 ∙ mod-eq_of_lt (crc_below crc_16 m crc added c))) c

-- The two algorithms.
pub reflects_32 : Reflects crc_32 0xedb8_8320 0xffff_ffff
unfolding reverse_bits_onto
reflects_32 = record {
  valid = record { some = omega arith; narrow = omega arith; degree = omega arith; starts = omega arith; added = omega arith };
  refin = refl;
  refout = refl;
  feeds = refl;
  adds = refl;
}

pub reflects_16 : Reflects crc_16 0x8408 0xffff
unfolding reverse_bits_onto
reflects_16 = record {
  valid = record { some = omega arith; narrow = omega arith; degree = omega arith; starts = omega arith; added = omega arith };
  refin = refl;
  refout = refl;
  feeds = refl;
  adds = refl;
}

-- The checksum of no bytes.
pub none_32 : IsCrc crc_32 [] 0
unfolding reverse_bits_onto
none_32 = record {
  remainder = 0xffff_ffff;
  is_below = omega arith;
  is_remainder = record { quotient = []; differ_by = refl };
  gives = refl;
}

pub none_16 : IsCrc crc_16 [] 0
unfolding reverse_bits_onto
none_16 = record {
  remainder = 0xffff;
  is_below = omega arith;
  is_remainder = record { quotient = []; differ_by = refl };
  gives = refl;
}
