-- The register of a checksum: at the beginning, after more bytes, and what is read from it.
use Rattle.std.proofs.Common.{◌≡◌, ℕ, zero, suc, ◌+◌, ◌-◌, ◌*◌, ◌/◌, ◌%◌, ◌^◌, ◌<◌, ◌≤◌, List, [], ◌∷◌, ◌++◌, length, Bool, true, false, refl, sym, ap, ap₂, subst, subst₂, ◌∙◌, mul-one, mul_assoc, mul_right_comm, mul-lt-mul_of_pos_right, mod-eq_of_lt, mod-lt, lt_of_le_of_lt, zero-mul, pow-add, pow_pos, div-lt_iff_lt-mul, arith, bit_xor, bit_and, length-append, map, set, get_or, ◌≢◌, below_more, get_or-set_other, get_or-set_same}
use Rattle.std.proofs.lemmas.List.{map-set, length-map}
use lib.Bits.{xor_assoc, xor_comm, xor_shifted, xor_lt, and_mask}
use Rattle.std.proofs.Math.Nat.{mul-div-mul_right, div-le_self}
use Rattle.crc.specs.Polynomial.{Congruent}
use Rattle.crc.specs.Crc.{Parameters, in_order, message, generator, dividend, IsCrc, IsValid}
use Rattle.crc.specs.Checked.{AreBytes}
use Rattle.crc.specs.Register.{AreEntries, gap, feedback, rounds, first_byte, entry, Holds, Takes, read}
use Rattle.crc.proofs.PolynomialLemmas.{sum_shift, same, back, chain, sums, shifted, narrowed}
use Rattle.crc.proofs.ReflectionLemmas.{mirror, is_mirror, mirror_twice, mirror_scaled}
use Rattle.crc.proofs.RegisterLemmas.{in_order_below, rounds_below, rounds_add, first_is, table_is, reflected_takes, plain_takes}
use Rattle.crc.proofs.MessageLemmas.{message_append, message_byte, message_small}

-- In order twice is as it was.
pub in_order_twice : (refin : Bool) (n r : ℕ) → r < 2 ^ n → in_order refin n (in_order refin n r) ≡ r
in_order_twice true n r h = is_mirror n (in_order true n r) ∙ ap (mirror n) (is_mirror n r) ∙ mirror_twice n r h
in_order_twice false n r h = refl

module _ (n : ℕ) (a : Parameters) (narrow : a.width ≤ n) where
  together : n ≡ a.width + gap n a
  together = omega arith

  high : 2 ^ a.width * 2 ^ gap n a ≡ 2 ^ n
  high = sym (ap (λ i. 2 ^ i) together ∙ pow-add 2 a.width (gap n a))

  -- A number below 2^width, times x^gap, fits the register.
  pub lifted_below : (p : ℕ) → p < 2 ^ a.width → p * 2 ^ gap n a < 2 ^ n
  lifted_below p h = subst (λ y. p * 2 ^ gap n a < y) high (mul-lt-mul_of_pos_right h (pow_pos (gap n a)))

  pub lifted_whole : (p : ℕ) → p < 2 ^ a.width → p * 2 ^ gap n a % 2 ^ n ≡ p * 2 ^ gap n a
  lifted_whole p h = mod-eq_of_lt (lifted_below p h)

  pub lifted_generator : 2 ^ n + a.poly * 2 ^ gap n a ≡ generator a * 2 ^ gap n a
  lifted_generator = omega (arith, high)

  -- The register of no bytes.
  pub holds_none : (r l : ℕ) → a.init < 2 ^ a.width → l ≡ a.init * 2 ^ gap n a % 2 ^ n → r ≡ in_order a.refin n l → Holds n a r []
  holds_none r l below l_is r_is =
      let whole : l ≡ a.init * 2 ^ gap n a = l_is ∙ lifted_whole a.init below in
      let fits : l < 2 ^ n = subst (λ y. y < 2 ^ n) (sym whole) (lifted_below a.init below) in
      record {
        is_below = subst (λ y. y < 2 ^ n) (sym r_is) (in_order_below a.refin n l fits);
        is_remainder =
            let f : dividend a [] ≡ a.init = ap (λ y. bit_xor y (a.init * 1)) (zero-mul (2 ^ a.width)) ∙ mul-one a.init in
            let e : in_order a.refin n r ≡ a.init * 2 ^ gap n a = ap (in_order a.refin n) r_is ∙ in_order_twice a.refin n l fits ∙ whole in
            subst₂ (λ y z. Congruent (generator a * 2 ^ gap n a) y z) (ap (λ y. y * 2 ^ gap n a) (sym f)) (sym e) (same (a.init * 2 ^ gap n a));
      }

  -- More bytes, of which there are k bits.
  pub holds_more : (k r s : ℕ) (m c : List ℕ) → k ≡ 8 * length c → AreBytes c → s < 2 ^ n → Takes n a k r (message a.refin c) s → Holds n a r m → Holds n a s (m ++ c)
  holds_more k r s m c k_is are below step h = record {
    is_below = below;
    is_remainder =
        let E = message a.refin c in
        let M = message a.refin m in
        let W = 2 ^ a.width in
        let L = 2 ^ gap n a in
        let I = a.init in
        let j = length m in
        let D = dividend a m in
        let small : E < 2 ^ k = subst (λ i. E < 2 ^ i) (sym k_is) (message_small a.refin c are) in
        let joined : message a.refin (m ++ c) ≡ bit_xor (M * 2 ^ k) E =
        message_append a.refin m c ∙ ap (λ i. M * 2 ^ i + E) (sym k_is) ∙ sym (xor_shifted M k E small) in
        let place : 8 * length (m ++ c) ≡ 8 * j + k = omega (arith, length-append m c) in
        let start : I * 2 ^ (8 * length (m ++ c)) ≡ I * 2 ^ (8 * j) * 2 ^ k = ap (λ i. I * 2 ^ i) place ∙ ap (λ y. I * y) (pow-add 2 (8 * j) k) ∙ sym (mul_assoc I (2 ^ (8 * j)) (2 ^ k)) in
        let front : bit_xor (M * 2 ^ k) E * W ≡ bit_xor (M * W * 2 ^ k) (E * W) = sym (sum_shift a.width (M * 2 ^ k) E) ∙ ap (λ y. bit_xor y (E * W)) (mul_right_comm M (2 ^ k) W) in
        let divided : dividend a (m ++ c) ≡ bit_xor (D * 2 ^ k) (E * W) =
        ap₂ bit_xor (ap (λ y. y * W) joined ∙ front) start
        ∙ xor_assoc (M * W * 2 ^ k) (E * W) (I * 2 ^ (8 * j) * 2 ^ k) ∙ ap (λ y. bit_xor (M * W * 2 ^ k) y) (xor_comm (E * W) (I * 2 ^ (8 * j) * 2 ^ k))
        ∙ sym (xor_assoc (M * W * 2 ^ k) (I * 2 ^ (8 * j) * 2 ^ k) (E * W)) ∙ ap (λ y. bit_xor y (E * W)) (sum_shift k (M * W) (I * 2 ^ (8 * j))) in
        let scaled : dividend a (m ++ c) * L ≡ bit_xor (D * L * 2 ^ k) (E * 2 ^ n) =
        ap (λ y. y * L) divided ∙ sym (sum_shift (gap n a) (D * 2 ^ k) (E * W))
        ∙ ap₂ bit_xor (mul_right_comm D (2 ^ k) L) (mul_assoc E W L ∙ ap (λ y. E * y) high) in
        subst (λ y. Congruent (generator a * L) y (in_order a.refin n s)) (sym scaled)
        (chain (sums (shifted k h.is_remainder) (same (E * 2 ^ n))) (back step));
  }

  -- One byte more.
  pub holds_byte : (r s b : ℕ) (m : List ℕ) → b < 256 → s < 2 ^ n → Takes n a 8 r (in_order a.refin 8 b) s → Holds n a r m → Holds n a s (m ++ b ∷ [])
  holds_byte r s b m byte below step h =
      holds_more 8 r s m (b ∷ []) refl (byte, tt) below (subst (λ y. Takes n a 8 r y s) (sym (message_byte a.refin b)) step) h

  -- The polynomial in a register is a multiple of x^gap, and what is read of it is the remainder.
  reads_remainder : (r : ℕ) → r < 2 ^ n → (i o : Bool) → in_order i n r ≡ in_order i n r / 2 ^ gap n a * 2 ^ gap n a → read i o n (gap n a) r ≡ in_order o a.width (in_order i n r / 2 ^ gap n a)
  reads_remainder r below = by
    where
      other : n ≡ gap n a + a.width
      other = omega arith

      -- What a multiple of x^gap is in reverse order.
      turned : (x : ℕ) → x ≡ x / 2 ^ gap n a * 2 ^ gap n a → in_order true n x ≡ in_order true a.width (x / 2 ^ gap n a)
      turned x e = is_mirror n x ∙ ap (mirror n) e ∙ mirror_scaled (gap n a) a.width n (x / 2 ^ gap n a) other ∙ sym (is_mirror a.width (x / 2 ^ gap n a))

      by : (i o : Bool) → in_order i n r ≡ in_order i n r / 2 ^ gap n a * 2 ^ gap n a → read i o n (gap n a) r ≡ in_order o a.width (in_order i n r / 2 ^ gap n a)
      by true true e = sym (in_order_twice true n r below) ∙ turned (in_order true n r) e
      by false false e = refl
      by true false e = refl
      by false true e = turned r e

  -- The checksum of the bytes that a register has taken.
  pub reads : (r : ℕ) (m : List ℕ) → Holds n a r m → IsCrc a m (bit_xor (read a.refin a.refout n (gap n a) r) a.xorout)
  reads r m h =
      let held = in_order a.refin n r in
      let cut = narrowed (generator a) (gap n a) (dividend a m) held h.is_remainder in
      record {
        remainder = held / 2 ^ gap n a;
        is_below =
            let small : held < 2 ^ a.width * 2 ^ gap n a = subst (λ y. held < y) (sym high) (in_order_below a.refin n r h.is_below) in
            (div-lt_iff_lt-mul (pow_pos (gap n a))).1 small;
        is_remainder = cut.1;
        gives = ap (λ y. bit_xor y a.xorout) (reads_remainder r h.is_below a.refin a.refout cut.0);
      }

  -- It has as many bits as the algorithm.
  pub read_below : (r : ℕ) (m : List ℕ) → Holds n a r m → a.xorout < 2 ^ a.width → bit_xor (read a.refin a.refout n (gap n a) r) a.xorout < 2 ^ a.width
  read_below r m h added =
      let c = reads r m h in
      subst (λ y. y < 2 ^ a.width) (sym c.gives) (xor_lt a.width (in_order a.refout a.width c.remainder) a.xorout (in_order_below a.refout a.width c.remainder c.is_below) added)

-- Of n bits.
pub quotient_below : (n d r : ℕ) → r < 2 ^ n → r / d < 2 ^ n
quotient_below n d r h = lt_of_le_of_lt (div-le_self r d) h

pub sum_below : (n b x y z : ℕ) → b ≡ n → y ≡ x % 2 ^ b → z < 2 ^ n → bit_xor y z < 2 ^ n
sum_below n b x y z e y_is below =
    let h : y < 2 ^ n = subst₂ (λ u k. u < 2 ^ k) (sym y_is) e (mod-lt x (pow_pos b)) in
    xor_lt n y z h below

-- ---- entries of tables

-- The generator without its highest power.
feedback_is : (n : ℕ) (a : Parameters) → IsValid n a → (feedback n a < 2 ^ n) × (in_order a.refin n (feedback n a) ≡ a.poly * 2 ^ gap n a)
feedback_is n a valid =
    let fits = lifted_below n a valid.narrow a.poly valid.degree in
    (in_order_below a.refin n (a.poly * 2 ^ gap n a) fits, in_order_twice a.refin n (a.poly * 2 ^ gap n a) fits)

pub feedback_below : (n : ℕ) (a : Parameters) → IsValid n a → feedback n a < 2 ^ n
feedback_below n a valid = (feedback_is n a valid).0

-- As a program computes it.
pub feedback_made : (n : ℕ) (a : Parameters) → IsValid n a → (b g p l f : ℕ) → b ≡ n → g ≡ b - a.width → p ≡ a.poly → l ≡ p * 2 ^ g % 2 ^ b → f ≡ in_order a.refin b l
    → f ≡ feedback n a
feedback_made n a valid b g p l f b_is g_is p_is l_is f_is =
    let g_at : g ≡ n - a.width = g_is ∙ ap (λ y. y - a.width) b_is in
    let l_at : l ≡ a.poly * 2 ^ (n - a.width) =
    l_is ∙ ap (λ y. y * 2 ^ g % 2 ^ b) p_is ∙ ap₂ (λ x y. a.poly * 2 ^ x % 2 ^ y) g_at b_is ∙ lifted_whole n a valid.narrow a.poly valid.degree in
    f_is ∙ ap₂ (λ x y. in_order a.refin x y) b_is l_at

pub first_made : (b i : ℕ) → 8 ≤ b → i < 256 → i * 2 ^ (b - 8) % 2 ^ b ≡ i * 2 ^ (b - 8)
first_made b i wide byte =
    let size : b ≡ 8 + (b - 8) = omega arith in
    let power : 2 ^ b ≡ 2 ^ 8 * 2 ^ (b - 8) = ap (λ k. 2 ^ k) size ∙ pow-add 2 8 (b - 8) in
    let fits : i * 2 ^ (b - 8) < 2 ^ b = subst (λ y. i * 2 ^ (b - 8) < y) (sym power) (mul-lt-mul_of_pos_right byte (pow_pos (b - 8))) in
    mod-eq_of_lt fits

pub entry_below : (n : ℕ) (a : Parameters) → 8 ≤ n → IsValid n a → (j : ℕ) → entry n a j < 2 ^ n
entry_below zero a wide valid j = absurd (omega arith)
entry_below (suc v) a wide valid j =
    let f = feedback_is (suc v) a valid in
    let size : suc v ≡ 8 + (suc v - 8) = omega arith in
    let byte : j % 256 < 256 = omega arith in
    rounds_below v (feedback (suc v) a) (a.poly * 2 ^ gap (suc v) a) f.0 a.refin (8 * (j / 256 + 1)) (first_byte a.refin (suc v) (j % 256))
    (first_is v (feedback (suc v) a) (a.poly * 2 ^ gap (suc v) a) f.0 a.refin f.1 (suc v - 8) size (j % 256) byte).0

-- The polynomial of an entry.
pub entry_is : (n : ℕ) (a : Parameters) → 8 ≤ n → IsValid n a → (m i : ℕ) → i < 256
    → Congruent (generator a * 2 ^ gap n a) (in_order a.refin n (entry n a (256 * m + i))) (in_order a.refin 8 i * 2 ^ (8 * m) * 2 ^ n)
entry_is zero a wide valid m i byte = absurd (omega arith)
entry_is (suc v) a wide valid m i byte =
    let n = suc v in
    let f = feedback_is n a valid in
    let size : n ≡ 8 + (n - 8) = omega arith in
    let at : 8 * suc m ≡ 8 * ((256 * m + i) / 256 + 1) = omega arith in
    let place : i ≡ (256 * m + i) % 256 = omega arith in
    let same_entry : rounds a.refin n (feedback n a) (8 * suc m) (first_byte a.refin n i) ≡ entry n a (256 * m + i) =
    ap₂ (λ k y. rounds a.refin n (feedback n a) k (first_byte a.refin n y)) at place in
    subst₂ (λ g y. Congruent g (in_order a.refin n y) (in_order a.refin 8 i * 2 ^ (8 * m) * 2 ^ n)) (lifted_generator n a valid.narrow) same_entry
    (table_is v (feedback n a) (a.poly * 2 ^ gap n a) f.0 a.refin f.1 (n - 8) size m i byte)

-- The entry of a byte in the first table, and that of the table before, eight rounds later.
pub entry_first : (n : ℕ) (a : Parameters) (j : ℕ) → j < 256 → rounds a.refin n (feedback n a) 8 (first_byte a.refin n j) ≡ entry n a j
entry_first n a j h =
    let at : 8 ≡ 8 * (j / 256 + 1) = omega arith in
    let place : j ≡ j % 256 = omega arith in
    ap₂ (λ k y. rounds a.refin n (feedback n a) k (first_byte a.refin n y)) at place

pub entry_later : (n : ℕ) (a : Parameters) (j : ℕ) → 256 ≤ j → rounds a.refin n (feedback n a) 8 (entry n a (j - 256)) ≡ entry n a j
entry_later n a j h =
    let at : 8 * ((j - 256) / 256 + 1) + 8 ≡ 8 * (j / 256 + 1) = omega arith in
    let place : (j - 256) % 256 ≡ j % 256 = omega arith in
    rounds_add a.refin n (feedback n a) 8 (8 * ((j - 256) / 256 + 1)) (first_byte a.refin n ((j - 256) % 256))
    ∙ ap₂ (λ k y. rounds a.refin n (feedback n a) k (first_byte a.refin n y)) at place

-- ---- more bits at once

-- The lowest k bits x of a register, to which those that come are added, leave it.
pub takes_reflected : (n : ℕ) (a : Parameters) (k r w x t : ℕ) → a.refin ≡ true → r < 2 ^ n → x ≡ bit_xor (r % 2 ^ k) w
    → Congruent (generator a * 2 ^ gap n a) (in_order a.refin n t) (in_order a.refin k x * 2 ^ n)
    → Takes n a k r (in_order a.refin k w) (bit_xor (r / 2 ^ k) t)
takes_reflected n a k r w x t refin below x_is at =
    let g = generator a * 2 ^ gap n a in
    let s = bit_xor (r / 2 ^ k) t in
    let at_mirror : Congruent g (mirror n t) (mirror k x * 2 ^ n) =
    subst₂ (λ y z. Congruent g y (z * 2 ^ n)) (ap (λ o. in_order o n t) refin ∙ is_mirror n t) (ap (λ o. in_order o k x) refin ∙ is_mirror k x) at in
    let old : bit_xor (mirror n r * 2 ^ k) (mirror k w * 2 ^ n) ≡ bit_xor (in_order a.refin n r * 2 ^ k) (in_order a.refin k w * 2 ^ n) =
    ap₂ (λ y z. bit_xor (y * 2 ^ k) (z * 2 ^ n)) (sym (ap (λ o. in_order o n r) refin ∙ is_mirror n r)) (sym (ap (λ o. in_order o k w) refin ∙ is_mirror k w)) in
    subst₂ (λ y z. Congruent g y z) (sym (ap (λ o. in_order o n s) refin ∙ is_mirror n s)) old (reflected_takes g n k r w x t below x_is at_mirror)

-- The highest k bits x of a register.
pub takes_plain : (n : ℕ) (a : Parameters) (k r w x t : ℕ) → a.refin ≡ false → x ≡ bit_xor (r * 2 ^ k / 2 ^ n) w
    → Congruent (generator a * 2 ^ gap n a) (in_order a.refin n t) (in_order a.refin k x * 2 ^ n)
    → Takes n a k r (in_order a.refin k w) (bit_xor (r * 2 ^ k % 2 ^ n) t)
takes_plain n a k r w x t refin x_is at =
    let g = generator a * 2 ^ gap n a in
    let at_plain : Congruent g t (x * 2 ^ n) = subst (λ o. Congruent g (in_order o n t) (in_order o k x * 2 ^ n)) refin at in
    subst (λ o. Congruent g (in_order o n (bit_xor (r * 2 ^ k % 2 ^ n) t)) (bit_xor (in_order o n r * 2 ^ k) (in_order o k w * 2 ^ n))) (sym refin)
    (plain_takes g n k r w x t x_is at_plain)

-- The bits that leave a register at its top.
pub top_bits : (n k r : ℕ) → k ≤ n → r * 2 ^ k / 2 ^ n ≡ r / 2 ^ (n - k)
top_bits n k r few =
    let size : n ≡ n - k + k = omega arith in
    let power : 2 ^ n ≡ 2 ^ (n - k) * 2 ^ k = ap (λ i. 2 ^ i) size ∙ pow-add 2 (n - k) k in
    ap (λ y. r * 2 ^ k / y) power ∙ mul-div-mul_right r (2 ^ (n - k)) (pow_pos k)

pub top_below : (n k r : ℕ) → k ≤ n → r < 2 ^ n → r / 2 ^ (n - k) < 2 ^ k
top_below n k r few below =
    let size : n ≡ k + (n - k) = omega arith in
    let power : 2 ^ n ≡ 2 ^ k * 2 ^ (n - k) = ap (λ i. 2 ^ i) size ∙ pow-add 2 k (n - k) in
    let h : r < 2 ^ k * 2 ^ (n - k) = subst (λ y. r < y) power below in
    (div-lt_iff_lt-mul (pow_pos (n - k))).1 h

-- One byte of the first table.
byte_entry : (n : ℕ) (a : Parameters) → 8 ≤ n → IsValid n a → (x t : ℕ) → x < 256 → t ≡ entry n a x
    → Congruent (generator a * 2 ^ gap n a) (in_order a.refin n t) (in_order a.refin 8 x * 2 ^ n)
byte_entry n a wide valid x t byte t_is =
    let first : 256 * 0 + x ≡ x = omega arith in
    let none : in_order a.refin 8 x * 2 ^ (8 * 0) ≡ in_order a.refin 8 x = mul-one (in_order a.refin 8 x) in
    subst₂ (λ y z. Congruent (generator a * 2 ^ gap n a) (in_order a.refin n y) (z * 2 ^ n)) (ap (entry n a) first ∙ sym t_is) none (entry_is n a wide valid 0 x byte)

pub byte_reflected : (n : ℕ) (a : Parameters) → 8 ≤ n → IsValid n a → (r b x t : ℕ) → a.refin ≡ true → r < 2 ^ n → x < 256
    → x ≡ bit_xor (bit_and r 255) b → t ≡ entry n a x → Takes n a 8 r (in_order a.refin 8 b) (bit_xor (r / 2 ^ 8) t)
byte_reflected n a wide valid r b x t refin below byte x_is t_is =
    takes_reflected n a 8 r b x t refin below (x_is ∙ ap (λ y. bit_xor y b) (and_mask r 8)) (byte_entry n a wide valid x t byte t_is)

pub byte_plain : (n : ℕ) (a : Parameters) → 8 ≤ n → IsValid n a → (r b x t : ℕ) → a.refin ≡ false → x < 256
    → x ≡ bit_xor (r / 2 ^ (n - 8)) b → t ≡ entry n a x → Takes n a 8 r (in_order a.refin 8 b) (bit_xor (r * 2 ^ 8 % 2 ^ n) t)
byte_plain n a wide valid r b x t refin byte x_is t_is =
    takes_plain n a 8 r b x t refin (x_is ∙ ap (λ y. bit_xor y b) (sym (top_bits n 8 r wide))) (byte_entry n a wide valid x t byte t_is)

-- An entry that is written keeps those before it.
pub entry_written : {X : Type 0} (number : X → ℕ) (n : ℕ) (a : Parameters) (xs : List X) (j : ℕ) (x : X) → j < length xs → number x ≡ entry n a j
    → AreEntries n a j (map number xs) → AreEntries n a (j + 1) (map number (set xs j x))
entry_written number n a xs j x within is before =
    let len : j < length (map number xs) = subst (λ y. j < y) (sym (length-map xs number)) within in
    below_more _ _
    (λ k h. let ne : k ≢ j = omega arith in ap (λ y. get_or y k 0) (map-set number xs j x) ∙ rw get_or-set_other (before k h))
    (ap (λ y. get_or y j 0) (map-set number xs j x) ∙ rw get_or-set_same is)
