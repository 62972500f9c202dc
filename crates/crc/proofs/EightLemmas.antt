-- Eight bytes as one number, and the entries of eight tables for them.
use Rattle.std.proofs.Common.{◌≡◌, ℕ, zero, suc, ◌+◌, ◌-◌, ◌*◌, ◌/◌, ◌%◌, ◌^◌, ◌<◌, ◌≤◌, List, [], ◌∷◌, ◌++◌, length, drop, get_or, Bool, true, false, refl, sym, ap, ap₂, subst, subst₂, ◌∙◌, pow-add, pow-suc, pow_pos, zero-mul, mul_assoc, mul-lt-mul_of_pos_right, div-one, arith, bit_xor}
use Rattle.std.specs.Int.{w64, byte_at, bytes_low_first, to_le_bytes, to_be_bytes}
use Rattle.std.proofs.Math.Nat.{div-div-eq-div-mul, mul-div-mul_right}
use Rattle.std.proofs.Math.Seq.{drop-cons}
use Rattle.std.proofs.lemmas.Nat.{from_be_bytes-to_be_bytes_8}
use Rattle.std.proofs.lemmas.List.{length-drop, get_or-drop}
use lib.Bits.{xor_comm, xor_shifted, xor_lt}
use Rattle.crc.specs.Polynomial.{Congruent}
use Rattle.crc.specs.Crc.{Parameters, in_order, message, generator, IsValid}
use Rattle.crc.specs.Checked.{low_bytes, AreBytes}
use Rattle.crc.specs.Register.{AreEntries, IsSumFor, Takes, Holds, leaving, staying, gap, entry}
use Rattle.crc.proofs.PolynomialLemmas.{sum_shift, same, sums}
use Rattle.crc.proofs.ReflectionLemmas.{is_mirror, mirror_zero}
use Rattle.crc.proofs.RegisterLemmas.{in_order_sum}
use Rattle.crc.proofs.MessageLemmas.{message_append, message_byte, message_small}
use Rattle.crc.proofs.CheckedLemmas.{low_message}
use Rattle.crc.proofs.CrcLemmas.{entry_is, takes_reflected, takes_plain, holds_more}

-- The bytes of a slice are bytes.
pub are_bytes : (xs : List ℕ) → ((i : ℕ) → get_or xs i 0 < 256) → AreBytes xs
are_bytes [] h = tt
are_bytes (x ∷ xs) h = (h 0, are_bytes xs (λ i. h (suc i)))

-- ---- eight bytes as a number

by_places : (k i n : ℕ) → bytes_low_first i k n ≡ low_bytes k (n / 256 ^ i)
by_places zero i n = refl
by_places (suc k) i n =
    ap₂ (λ (b : ℕ) (bs : List ℕ). b ∷ bs) (first i n) (by_places k (suc i) n ∙ ap (low_bytes k) (next_place i n))
  where
    first : (j m : ℕ) → byte_at j m ≡ m / 256 ^ j % 256
    first zero m = ap (λ y. y % 256) (sym (div-one m))
    first (suc j) m = refl

    next_place : (j m : ℕ) → m / 256 ^ suc j ≡ m / 256 ^ j / 256
    next_place j m = ap (λ y. m / y) (pow-suc 256 j) ∙ sym (div-div-eq-div-mul m (256 ^ j) 256)

-- The lowest byte first,
pub low_first : (n : ℕ) → message true (to_le_bytes w64 n) ≡ in_order true 64 n
low_first n =
    ap (message true) (by_places 8 0 n ∙ ap (low_bytes 8) (div-one n)) ∙ low_message 8 n 0 ∙ omega (arith, is_mirror 64 n)

-- and the highest first.
pub high_first : (n : ℕ) → n < 2 ^ 64 → message false (to_be_bytes w64 n) ≡ n
high_first n fits = omega (arith, from_be_bytes-to_be_bytes_8 n fits)

-- ---- the entries of the bytes

-- No bytes have the sum 0.
pub no_sum : (n : ℕ) (a : Parameters) → IsSumFor n a [] 0
no_sum n a = subst₂ (λ y z. Congruent (generator a * 2 ^ gap n a) y z) (sym (none a.refin)) (sym (zero-mul (2 ^ n))) (same 0)
  where
    none : (o : Bool) → in_order o n 0 ≡ 0
    none true = is_mirror n 0 ∙ mirror_zero n
    none false = refl

-- One byte more in front has the entry of its place in addition.
pub sum_more : (n : ℕ) (a : Parameters) → 8 ≤ n → IsValid n a → (b t s : ℕ) (bytes : List ℕ) → b < 256 → AreBytes bytes → t ≡ entry n a (256 * length bytes + b)
    → IsSumFor n a bytes s → IsSumFor n a (b ∷ bytes) (bit_xor s t)
sum_more n a wide valid b t s bytes byte are t_is h =
    let k = 8 * length bytes in
    let B = in_order a.refin 8 b in
    let M = message a.refin bytes in
    let whole : message a.refin (b ∷ bytes) ≡ bit_xor (B * 2 ^ k) M =
    message_append a.refin (b ∷ []) bytes ∙ ap (λ y. y * 2 ^ k + M) (message_byte a.refin b) ∙ sym (xor_shifted B k M (message_small a.refin bytes are)) in
    let apart : bit_xor (M * 2 ^ n) (B * 2 ^ k * 2 ^ n) ≡ message a.refin (b ∷ bytes) * 2 ^ n =
    xor_comm (M * 2 ^ n) (B * 2 ^ k * 2 ^ n) ∙ sum_shift n (B * 2 ^ k) M ∙ ap (λ y. y * 2 ^ n) (sym whole) in
    let one : Congruent (generator a * 2 ^ gap n a) (in_order a.refin n t) (B * 2 ^ k * 2 ^ n) =
    subst (λ y. Congruent (generator a * 2 ^ gap n a) (in_order a.refin n y) (B * 2 ^ k * 2 ^ n)) (sym t_is) (entry_is n a wide valid (length bytes) b byte) in
    subst₂ (λ y z. Congruent (generator a * 2 ^ gap n a) y z) (sym (in_order_sum a.refin n s t)) apart (sums h one)

-- The entries of eight bytes, from the last one on: after k of them, and then one more.
pub entries_more : (n : ℕ) (a : Parameters) → 8 ≤ n → IsValid n a → (xs : List ℕ) → AreEntries n a 2048 xs
    → (bytes : List ℕ) → length bytes ≡ 8 → ((i : ℕ) → get_or bytes i 0 < 256) → (k s t : ℕ) → k < 8
    → t ≡ get_or xs (256 * k + get_or bytes (7 - k) 0) 0
    → IsSumFor n a (drop (8 - k) bytes) s → IsSumFor n a (drop (8 - (k + 1)) bytes) (bit_xor s t)
entries_more n a wide valid xs served bytes len are k s t few t_is h =
    let j = 7 - k in
    let here : 8 - (k + 1) ≡ j = omega arith in
    let next : suc j ≡ 8 - k = omega arith in
    let within : j < length bytes = omega arith in
    let rest = drop (8 - k) bytes in
    let cut : drop (8 - (k + 1)) bytes ≡ get_or bytes j 0 ∷ rest =
    ap (λ i. drop i bytes) here ∙ drop-cons bytes j 0 within ∙ ap (λ i. get_or bytes j 0 ∷ drop i bytes) next in
    let size : length rest ≡ k = omega (arith, length-drop (8 - k) bytes) in
    let byte = are j in
    let place : 256 * k + get_or bytes j 0 < 2048 = omega arith in
    let t_at : t ≡ entry n a (256 * length rest + get_or bytes j 0) =
    t_is ∙ served (256 * k + get_or bytes j 0) place ∙ ap (λ i. entry n a (256 * i + get_or bytes j 0)) (sym size) in
    subst (λ (z : List ℕ). IsSumFor n a z (bit_xor s t)) (sym cut)
    (sum_more n a wide valid (get_or bytes j 0) t s rest byte (are_bytes rest (λ i. subst (λ y. y < 256) (sym (get_or-drop (8 - k) bytes i 0)) (are (8 - k + i)))) t_at h)

-- ---- a register

-- The bits that leave a register, to which those that come are added.
pub takes_all : (n : ℕ) (a : Parameters) (k r w x t : ℕ) → r < 2 ^ n → x ≡ bit_xor (leaving a.refin n k r) w
    → Congruent (generator a * 2 ^ gap n a) (in_order a.refin n t) (in_order a.refin k x * 2 ^ n)
    → Takes n a k r (in_order a.refin k w) (bit_xor (staying a.refin n k r) t)
takes_all n a k r w x t below x_is at = by a.refin refl x_is
  where
    by : (o : Bool) → a.refin ≡ o → x ≡ bit_xor (leaving o n k r) w → Takes n a k r (in_order a.refin k w) (bit_xor (staying o n k r) t)
    by true e x_is = takes_reflected n a k r w x t e below x_is at
    by false e x_is = takes_plain n a k r w x t e x_is at

-- The bits that leave at the top, by a register of 128 bits.
pub top_word : (b r : ℕ) → b ≤ 128 → r * 2 ^ (128 - b) / 2 ^ 64 ≡ r * 2 ^ 64 / 2 ^ b
top_word b r few =
    let all : 128 - b + b ≡ 64 + 64 = omega arith in
    let power : 2 ^ (128 - b) * 2 ^ b ≡ 2 ^ 64 * 2 ^ 64 = sym (pow-add 2 (128 - b) b) ∙ ap (λ k. 2 ^ k) all ∙ pow-add 2 64 64 in
    let up : r * 2 ^ (128 - b) * 2 ^ b ≡ r * 2 ^ 64 * 2 ^ 64 = mul_assoc r (2 ^ (128 - b)) (2 ^ b) ∙ ap (λ y. r * y) power ∙ sym (mul_assoc r (2 ^ 64) (2 ^ 64)) in
    let down : 2 ^ 64 * 2 ^ b ≡ 2 ^ b * 2 ^ 64 = omega arith in
    sym (mul-div-mul_right (r * 2 ^ (128 - b)) (2 ^ 64) (pow_pos b)) ∙ ap₂ (λ x y. x / y) up down ∙ mul-div-mul_right (r * 2 ^ 64) (2 ^ b) (pow_pos 64)

pub up_fits : (b r : ℕ) → b ≤ 128 → r < 2 ^ b → r * 2 ^ (128 - b) < 2 ^ 128
up_fits b r few below =
    let all : b + (128 - b) ≡ 128 = omega arith in
    let power : 2 ^ b * 2 ^ (128 - b) ≡ 2 ^ 128 = sym (pow-add 2 b (128 - b)) ∙ ap (λ k. 2 ^ k) all in
    subst (λ y. r * 2 ^ (128 - b) < y) power (mul-lt-mul_of_pos_right below (pow_pos (128 - b)))

-- Of n bits.
pub staying_sum_below : (n b t : ℕ) (s : ℕ) → b ≡ n → s < 2 ^ b → t < 2 ^ n → bit_xor s t < 2 ^ n
staying_sum_below n b t s e below fits = xor_lt n s t (subst (λ k. s < 2 ^ k) e below) fits

-- Eight bytes more, as a program takes them.
pub holds_eight : (n : ℕ) (p : Parameters) → IsValid n p → (r b l w x t s v : ℕ) (eight bytes : List ℕ) → r < 2 ^ n → b ≡ n
    → length eight ≡ 8 → ((i : ℕ) → get_or eight i 0 < 256) → l ≡ leaving p.refin b 64 r → in_order p.refin 64 w ≡ message p.refin eight
    → x ≡ bit_xor l w → message p.refin bytes ≡ in_order p.refin 64 x → IsSumFor n p bytes t → s ≡ staying p.refin b 64 r → v ≡ bit_xor s t → v < 2 ^ n
    → (i : ℕ) (m : List ℕ) → Holds n (record p { init = i }) r m → Holds n (record p { init = i }) v (m ++ eight)
holds_eight n p valid r b l w x t s v eight bytes below b_is len are l_is word x_is spelled sum s_is v_is v_below i m h =
    let a = record p { init = i } in
    let k : 64 ≡ 8 * length eight = omega arith in
    let x_at : x ≡ bit_xor (leaving p.refin n 64 r) w = x_is ∙ ap (λ y. bit_xor y w) (l_is ∙ ap (λ y. leaving p.refin y 64 r) b_is) in
    let v_at : v ≡ bit_xor (staying p.refin n 64 r) t = v_is ∙ ap (λ y. bit_xor y t) (s_is ∙ ap (λ y. staying p.refin y 64 r) b_is) in
    let at : Congruent (generator p * 2 ^ gap n p) (in_order p.refin n t) (in_order p.refin 64 x * 2 ^ n) =
    subst (λ y. Congruent (generator p * 2 ^ gap n p) (in_order p.refin n t) (y * 2 ^ n)) spelled sum in
    let step : Takes n p 64 r (in_order p.refin 64 w) (bit_xor (staying p.refin n 64 r) t) = takes_all n p 64 r w x t below x_at at in
    let taken : Takes n p 64 r (message p.refin eight) v = subst₂ (λ y z. Takes n p 64 r y z) word (sym v_at) step in
    holds_more n a valid.narrow 64 r v m eight k (are_bytes eight are) v_below taken h
