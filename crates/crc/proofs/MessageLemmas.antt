-- Messages as polynomials: of two pieces, and of a message in which some bytes were replaced.
use Rattle.std.proofs.Common.{◌≡◌, ℕ, suc, ◌+◌, ◌*◌, ◌/◌, ◌^◌, ◌<◌, ◌≤◌, List, [], ◌∷◌, ◌++◌, map, length, Bool, true, false, refl, sym, ap, ap₂, subst, ◌∙◌, mul-div_cancel, mul-le-mul_right, lt_of_lt_of_le, pow-add, pow_pos, pow_mono, arith, bit_xor}
use Rattle.std.proofs.Math.Nat.{zero-div}
use Rattle.std.proofs.lemmas.List.{map-append, length-map}
use Rattle.std.proofs.lemmas.Nat.{same_from_place}
use Rattle.std.proofs.lemmas.Int.Digits.{number_after_append}
use Rattle.std.specs.Int.Digits.{number_from_digits, number_from_digits_after}
use lib.Bits.{xor_self, xor_block, xor_lt}
use Rattle.crc.specs.Crc.{in_order, message}
use Rattle.crc.specs.Checked.{AreBytes}
use Rattle.crc.proofs.PolynomialLemmas.{same_if_no_sum}
use Rattle.crc.proofs.ReflectionLemmas.{mirror, is_mirror, mirror_twice}
use Rattle.crc.proofs.RegisterLemmas.{in_order_below}

-- Digits after the number p.
after : (p : ℕ) (ds : List ℕ) → number_from_digits_after 256 p ds ≡ p * 2 ^ (8 * length ds) + number_from_digits 256 ds
after p [] = omega arith
after p (d ∷ ds) =
    let n = length ds in
    let size : 8 * suc n ≡ 8 + 8 * n = omega arith in
    let power : 2 ^ (8 * suc n) ≡ 2 ^ 8 * 2 ^ (8 * n) = ap (λ i. 2 ^ i) size ∙ pow-add 2 8 (8 * n) in
    after (p * 256 + d) ds
    ∙ spread p d (2 ^ (8 * n)) (2 ^ (8 * suc n)) (number_from_digits 256 ds) power
    ∙ ap (λ y. p * 2 ^ (8 * suc n) + y) (sym (after (0 * 256 + d) ds))
  where
    spread : (p d P Q m : ℕ) → Q ≡ 2 ^ 8 * P → (p * 256 + d) * P + m ≡ p * Q + ((0 * 256 + d) * P + m)
    spread p d P Q m e = omega (arith, ap (λ y. p * y) e)

-- The polynomial of two pieces.
pub message_append : (refin : Bool) (u v : List ℕ) → message refin (u ++ v) ≡ message refin u * 2 ^ (8 * length v) + message refin v
message_append refin u v =
    ap (number_from_digits 256) (map-append (in_order refin 8) u v)
    ∙ number_after_append 256 0 (map (in_order refin 8) u) (map (in_order refin 8) v)
    ∙ after (message refin u) (map (in_order refin 8) v)
    ∙ ap (λ n. message refin u * 2 ^ (8 * n) + message refin v) (length-map v (in_order refin 8))

-- The polynomial of n bytes has degree below 8 n.
pub message_small : (refin : Bool) (m : List ℕ) → AreBytes m → message refin m < 2 ^ (8 * length m)
message_small refin [] h = omega arith
message_small refin (b ∷ m) h =
    let n = length m in
    let size : 8 * suc n ≡ 8 + 8 * n = omega arith in
    let power : 2 ^ (8 * suc n) ≡ 256 * 2 ^ (8 * n) = ap (λ i. 2 ^ i) size ∙ pow-add 2 8 (8 * n) in
    let d = in_order refin 8 b in
    let e : message refin (b ∷ m) ≡ d * 2 ^ (8 * n) + message refin m = after (0 * 256 + d) (map (in_order refin 8) m) ∙ ap (λ k. (0 * 256 + d) * 2 ^ (8 * k) + message refin m) (length-map m (in_order refin 8)) ∙ omega arith in
    let top : suc d ≤ 256 = in_order_below refin 8 b h.0 in
    let product : suc d * 2 ^ (8 * n) ≤ 256 * 2 ^ (8 * n) = mul-le-mul_right (2 ^ (8 * n)) top in
    omega (arith, message_small refin m h.1)

-- The polynomial of one byte.
pub message_byte : (refin : Bool) (b : ℕ) → message refin (b ∷ []) ≡ in_order refin 8 b
message_byte refin b = omega arith

-- A list of bytes is known from its length and its polynomial.
message_one : (refin : Bool) (m n : List ℕ) (p q : ℕ) → length m ≡ length n → AreBytes m → AreBytes n
    → number_from_digits_after 256 p (map (in_order refin 8) m) ≡ number_from_digits_after 256 q (map (in_order refin 8) n) → (p ≡ q) × (m ≡ n)
message_one refin [] [] p q len bm bn e = (e, refl)
message_one refin [] (y ∷ n) p q len bm bn e = absurd (omega arith)
message_one refin (x ∷ m) [] p q len bm bn e = absurd (omega arith)
message_one refin (x ∷ m) (y ∷ n) p q len bm bn e =
    let h = message_one refin m n (p * 256 + in_order refin 8 x) (q * 256 + in_order refin 8 y) (omega arith) bm.1 bn.1 e in
    let places = same_from_place p (in_order refin 8 x) q (in_order refin 8 y) 256 (in_order_below refin 8 x bm.0) (in_order_below refin 8 y bn.0) h.0 in
    (places.0, ap₂ (λ (z : ℕ) (zs : List ℕ). z ∷ zs) (one refin x y bm.0 bn.0 places.1) h.1)
  where
    one : (r : Bool) (b c : ℕ) → b < 256 → c < 256 → in_order r 8 b ≡ in_order r 8 c → b ≡ c
    one true b c hb hc e = sym (mirror_twice 8 b hb) ∙ ap (mirror 8) (sym (is_mirror 8 b) ∙ e ∙ is_mirror 8 c) ∙ mirror_twice 8 c hc
    one false b c hb hc e = e

-- Bytes of one length and one polynomial are the same bytes.
pub same_bytes : (refin : Bool) (m n : List ℕ) → length m ≡ length n → AreBytes m → AreBytes n → message refin m ≡ message refin n → m ≡ n
same_bytes refin m n len bm bn e = (message_one refin m n 0 0 len bm bn e).1

-- Bytes x that were replaced by y, between p and s: the polynomials differ only there.
pub differ_there : (refin : Bool) (p x y s : List ℕ) → length x ≡ length y → AreBytes x → AreBytes y → AreBytes s
    → bit_xor (message refin (p ++ x ++ s)) (message refin (p ++ y ++ s)) ≡ bit_xor (message refin x) (message refin y) * 2 ^ (8 * length s)
differ_there refin p x y s len bx by bs =
    let P = message refin p in
    let X = message refin x in
    let Y = message refin y in
    let S = message refin s in
    let J = 8 * length x in
    let K = 8 * length s in
    let whole_x : message refin (p ++ x ++ s) ≡ (P * 2 ^ J + X) * 2 ^ K + S = message_append refin (p ++ x) s ∙ ap (λ z. z * 2 ^ K + S) (message_append refin p x) in
    let whole_y : message refin (p ++ y ++ s) ≡ (P * 2 ^ J + Y) * 2 ^ K + S = message_append refin (p ++ y) s ∙ ap (λ z. z * 2 ^ K + S) (message_append refin p y ∙ ap (λ n. P * 2 ^ (8 * n) + Y) (sym len)) in
    let small_s = message_small refin s bs in
    let small_x = message_small refin x bx in
    let small_y : Y < 2 ^ J = subst (λ n. Y < 2 ^ (8 * n)) (sym len) (message_small refin y by) in
    ap₂ bit_xor whole_x whole_y
    ∙ xor_block K (P * 2 ^ J + X) (P * 2 ^ J + Y) S S small_s small_s
    ∙ ap₂ (λ z v. z * 2 ^ K + v) (xor_block J P P X Y small_x small_y ∙ ap (λ z. z * 2 ^ J + bit_xor X Y) (xor_self P)) (xor_self S)
    ∙ omega arith

-- Of at most w bits, they differ by a polynomial of degree below w.
pub short : (refin : Bool) (w : ℕ) (x y : List ℕ) → length x ≡ length y → AreBytes x → AreBytes y → 8 * length x ≤ w → bit_xor (message refin x) (message refin y) < 2 ^ w
short refin w x y len bx by few =
    let J = 8 * length x in
    let small_y : message refin y < 2 ^ J = subst (λ n. message refin y < 2 ^ (8 * n)) (sym len) (message_small refin y by) in
    lt_of_lt_of_le (xor_lt J (message refin x) (message refin y) (message_small refin x bx) small_y) (pow_mono few)

-- If the polynomials of the wholes are equal, so are the bytes.
pub were_same : (refin : Bool) (p x y s : List ℕ) → length x ≡ length y → AreBytes x → AreBytes y → AreBytes s
    → message refin (p ++ x ++ s) ≡ message refin (p ++ y ++ s) → x ≡ y
were_same refin p x y s len bx by bs e =
    let d = bit_xor (message refin x) (message refin y) in
    let P = 2 ^ (8 * length s) in
    let none : d * P ≡ 0 = sym (differ_there refin p x y s len bx by bs) ∙ ap (λ z. bit_xor z (message refin (p ++ y ++ s))) e ∙ xor_self (message refin (p ++ y ++ s)) in
    let zero_d : d ≡ 0 = sym (mul-div_cancel d (pow_pos (8 * length s))) ∙ ap (λ z. z / P) none ∙ zero-div P in
    same_bytes refin x y len bx by (same_if_no_sum (message refin x) (message refin y) zero_d)
