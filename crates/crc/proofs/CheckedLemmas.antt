-- What a message and its checksum are as one polynomial; which damage of either is seen.
use Rattle.std.proofs.Common.{◌≡◌, ℕ, zero, suc, ◌+◌, ◌*◌, ◌/◌, ◌%◌, ◌^◌, ◌<◌, ◌≤◌, List, [], ◌∷◌, ◌++◌, map, length, Bool, true, false, refl, sym, ap, subst, subst₂, ◌∙◌, pow-suc, pow-add, arith, bit_xor, length-append, lit<, lit≤}
use Rattle.std.proofs.lemmas.List.{map-append}
use Rattle.std.proofs.lemmas.Int.Digits.{number_after_append}
use Rattle.std.proofs.lemmas.Nat.{shr_split}
use Rattle.std.specs.Int.Digits.{number_from_digits, number_from_digits_after}
use lib.Bits.{xor_assoc, xor_comm, xor_self, xor_zero_r, xor_shifted, xor_lt}
use Rattle.crc.specs.Polynomial.{Congruent}
use Rattle.crc.specs.Crc.{Parameters, in_order, message, generator, dividend, IsCrc, IsSound, IsValid}
use Rattle.crc.specs.Checked.{low_bytes, AreBytes, IsChecked}
use Rattle.crc.specs.Damage.{IsBurst, ones, IsOddDamage, HasParity, AreTwo, HasOrderFrom}
use Rattle.crc.proofs.PolynomialLemmas.{sum_shift, sum_swap, sum_cancel, same, back, chain, sums, twice, shifted, one_remainder, no_burst, no_factor, through}
use Rattle.crc.proofs.ReflectionLemmas.{mirror, is_mirror, mirror_below, mirror_sum, mirror_split, mirror_short, mirror_twice, mirror_low, mirror_none}
use Rattle.crc.proofs.MessageLemmas.{same_bytes, differ_there, short, were_same}

pub length_low : (k n : ℕ) → length (low_bytes k n) ≡ k
length_low zero n = refl
length_low (suc k) n = ap suc (length_low k (n / 256))

-- The polynomial of the checksum's bytes is the checksum in reverse order.
pub low_message : (k n p : ℕ) → number_from_digits_after 256 p (map (in_order true 8) (low_bytes k n)) ≡ p * 2 ^ (8 * k) + mirror (8 * k) n
low_message zero n p = omega (arith, mirror_none n)
low_message (suc k) n p =
    let d = mirror 8 n in
    let bits : in_order true 8 (n % 256) ≡ d = is_mirror 8 (n % 256) ∙ sym (mirror_low 8 (n / 2 ^ 8) (n % 2 ^ 8)) ∙ ap (mirror 8) (omega arith) in
    let size : 8 * suc k ≡ 8 + 8 * k = omega arith in
    let power : 2 ^ (8 * suc k) ≡ 2 ^ 8 * 2 ^ (8 * k) = ap (λ i. 2 ^ i) size ∙ pow-add 2 8 (8 * k) in
    ap (λ y. number_from_digits_after 256 (p * 256 + y) (map (in_order true 8) (low_bytes k (n / 256)))) bits
    ∙ low_message k (n / 256) (p * 256 + d)
    ∙ spread p d (2 ^ (8 * k)) (2 ^ (8 * suc k)) (mirror (8 * k) (n / 256)) power
    ∙ ap (λ y. p * 2 ^ (8 * suc k) + y) (sym (mirror_split 8 (8 * k) (8 * suc k) n size))
  where
    spread : (p d P Q m : ℕ) → Q ≡ 2 ^ 8 * P → (p * 256 + d) * P + m ≡ p * Q + (d * P + m)
    spread p d P Q m e = omega (arith, ap (λ y. p * y) e)

-- The polynomials 1 and 0 are not congruent modulo x + 1.
not_same : Congruent 3 1 0 → ⊥
not_same h = apart (one_remainder 1 3 (lit≤ tt) (lit< tt) 1 0 (lit< tt) (lit< tt) h)
  where
    apart : ◌≡◌ {A = ℕ} 1 0 → ⊥
    apart e = omega arith

pub sound_of : (n : ℕ) (a : Parameters) → IsValid n a → a.poly % 2 ≡ 1 → IsSound a
sound_of n a v odd = record { some = v.some; degree = v.degree; odd = odd; added = v.added }

module _ (a : Parameters) (sound : IsSound a) where
  generator_high : 2 ^ a.width ≤ generator a
  generator_high = omega arith

  generator_low : generator a < 2 ^ suc a.width
  generator_low = omega (arith, sound.degree, pow-suc 2 a.width)

  generator_odd : generator a % 2 ≡ 1
  generator_odd =
      by a.width sound.some sound.odd
    where
      by : (w : ℕ) → 1 ≤ w → a.poly % 2 ≡ 1 → (2 ^ w + a.poly) % 2 ≡ 1
      by zero h o = absurd (omega arith)
      by (suc k) h o = omega (arith, pow-suc 2 k)

  in_order_one : (r s : ℕ) → r < 2 ^ a.width → s < 2 ^ a.width → in_order a.refout a.width r ≡ in_order a.refout a.width s → r ≡ s
  in_order_one r s br bs = by a.refout
    where
      by : (o : Bool) → in_order o a.width r ≡ in_order o a.width s → r ≡ s
      by true e = sym (mirror_twice a.width r br) ∙ ap (mirror a.width) (sym (is_mirror a.width r) ∙ e ∙ is_mirror a.width s) ∙ mirror_twice a.width s bs
      by false e = e

  no_xorout : (x y z : ℕ) → bit_xor x z ≡ bit_xor y z → x ≡ y
  no_xorout x y z e = sym (sum_cancel z x) ∙ ap (λ w. bit_xor z w) (xor_comm z x ∙ e ∙ xor_comm y z) ∙ sum_cancel z y

  -- A message has at most one checksum.
  pub one_crc : (bytes : List ℕ) (c d : ℕ) → IsCrc a bytes c → IsCrc a bytes d → c ≡ d
  one_crc bytes c d p q =
      let e : p.remainder ≡ q.remainder = one_remainder a.width (generator a) generator_high generator_low p.remainder q.remainder p.is_below q.is_below (chain (back p.is_remainder) q.is_remainder) in
      p.gives ∙ ap (λ r. bit_xor (in_order a.refout a.width r) a.xorout) e ∙ sym q.gives

  -- Messages of one length and one checksum are congruent, and so are they without x^width, since x
  -- does not divide the generator.
  pub messages_agree : (m n : List ℕ) (c : ℕ) → length m ≡ length n → IsCrc a m c → IsCrc a n c → Congruent (generator a) (message a.refin m) (message a.refin n)
  messages_agree m n c len p q =
      let r : p.remainder ≡ q.remainder = in_order_one p.remainder q.remainder p.is_below q.is_below (no_xorout (in_order a.refout a.width p.remainder) (in_order a.refout a.width q.remainder) a.xorout (sym p.gives ∙ q.gives)) in
      let M = message a.refin m in
      let N = message a.refin n in
      let W = a.width in
      let I = a.init * 2 ^ (8 * length m) in
      let J = a.init * 2 ^ (8 * length n) in
      let i : I ≡ J = ap (λ y. a.init * 2 ^ (8 * y)) len in
      let congruent : Congruent (generator a) (dividend a m) (dividend a n) = chain p.is_remainder (back (subst (λ y. Congruent (generator a) (dividend a n) y) (sym r) q.is_remainder)) in
      let none : bit_xor I J ≡ 0 = ap (λ y. bit_xor I y) (sym i) ∙ xor_self I in
      let there : bit_xor (dividend a m) (dividend a n) ≡ bit_xor M N * 2 ^ W =
      sum_swap (M * 2 ^ W) I (N * 2 ^ W) J ∙ ap (λ y. bit_xor (bit_xor (M * 2 ^ W) (N * 2 ^ W)) y) none ∙ xor_zero_r (bit_xor (M * 2 ^ W) (N * 2 ^ W))
      ∙ sum_shift W M N in
      let cut = no_factor W (generator a) generator_high generator_low generator_odd W (bit_xor M N) congruent.quotient (sym there ∙ congruent.differ_by) in
      record { quotient = cut.0; differ_by = cut.1 }

  module _ (x y : ℕ) (agree : Congruent (generator a) x y) where
    -- Congruent polynomials are equal if they differ by a burst,
    pub no_burst_between : IsBurst a.width (bit_xor x y) → x ≡ y
    no_burst_between b = no_burst a.width (generator a) generator_high generator_low generator_odd x y b.place b.bits agree b.is b.short

    -- and differ by no odd number of bits if x + 1 divides the generator,
    pub no_odd_between : (n : ℕ) → HasParity a → IsOddDamage n (bit_xor x y) → ⊥
    no_odd_between n parity damage =
        let e = bit_xor x y in
        let none : Congruent 3 e 0 = subst (λ z. Congruent 3 z 0) (sym agree.differ_by) (through 3 (generator a) parity agree.quotient) in
        let p : Congruent 3 e 1 = subst (λ z. Congruent 3 e z) damage.odd (parity_is n e damage.within) in
        not_same (chain (back p) none)
      where
        -- x is congruent to 1 modulo x + 1.
        doubled : (d : ℕ) → d < 2 → Congruent 3 (d * 2) d
        doubled zero h = same 0
        doubled (suc zero) h = record { quotient = true ∷ []; differ_by = refl }
        doubled (suc (suc d)) h = absurd (omega arith)

        added : (d p : ℕ) → d < 2 → p < 2 → bit_xor p d ≡ (d + p) % 2
        added zero zero h k = refl
        added zero (suc zero) h k = refl
        added (suc zero) zero h k = refl
        added (suc zero) (suc zero) h k = refl
        added (suc (suc d)) p h k = absurd (omega arith)
        added d (suc (suc p)) h k = absurd (omega arith)

        parity_is : (n e : ℕ) → e < 2 ^ n → Congruent 3 e (ones n e % 2)
        parity_is zero e below = let none : e ≡ 0 = omega arith in subst (λ z. Congruent 3 z 0) (sym none) (same 0)
        parity_is (suc n) e below =
            let half : e / 2 < 2 ^ n = omega (arith, pow-suc 2 n) in
            let p = ones n (e / 2) % 2 in
            let small : p < 2 = omega arith in
            let bit : e % 2 < 2 = omega arith in
            let whole : bit_xor (e / 2 * 2) (e % 2) ≡ e = xor_shifted (e / 2) 1 (e % 2) bit ∙ shr_split e 1 in
            let sum : bit_xor p (e % 2) ≡ (e % 2 + ones n (e / 2)) % 2 = added (e % 2) p bit small ∙ omega arith in
            subst₂ (λ y z. Congruent 3 y z) whole sum (sums (chain (twice (parity_is n (e / 2) half)) (doubled p small)) (same (e % 2)))

    -- and by no two bits that are less than the order of x apart.
    pub no_two_between : (n d : ℕ) → HasOrderFrom n a → 0 < d → d < n → AreTwo d (bit_xor x y) → ⊥
    no_two_between n d order some near two =
        let cut = no_factor a.width (generator a) generator_high generator_low generator_odd two.place (bit_xor (2 ^ d) 1) agree.quotient (sym two.is ∙ agree.differ_by) in
        order d some near (record { quotient = cut.0; differ_by = cut.1 })

  -- ---- checked messages

  module _ (k i : ℕ) (refin : a.refin ≡ true) (refout : a.refout ≡ true) (size : a.width + i ≡ 8 * k) where
    -- What every checked message with n bytes before its checksum is congruent to.
    residue : ℕ → ℕ
    residue n = bit_xor (a.init * 2 ^ (8 * n)) (mirror a.width a.xorout) * 2 ^ i

    checked_is : (bytes : List ℕ) (c : ℕ) → IsCrc a bytes c → Congruent (generator a) (message a.refin (bytes ++ low_bytes k c)) (residue (length bytes))
    unfolding residue
    checked_is bytes c h =
        let W = a.width in
        let M = message a.refin bytes in
        let I = a.init * 2 ^ (8 * length bytes) in
        let X = mirror W a.xorout in
        let r = h.remainder in
        let c_is : c ≡ bit_xor (mirror W r) a.xorout = h.gives ∙ ap (λ y. bit_xor y a.xorout) (ap (λ o. in_order o W r) refout ∙ is_mirror W r) in
        let small : c < 2 ^ W = subst (λ y. y < 2 ^ W) (sym c_is) (xor_lt W (mirror W r) a.xorout (mirror_below W r) sound.added) in
        let crc : mirror W c ≡ bit_xor r X =
        ap (mirror W) c_is ∙ mirror_sum W (mirror W r) a.xorout ∙ ap (λ y. bit_xor y X) (mirror_twice W r h.is_below) in
        let high : 2 ^ (8 * k) ≡ 2 ^ W * 2 ^ i = ap (λ y. 2 ^ y) (sym size) ∙ pow-add 2 W i in
        let cut : message a.refin (bytes ++ low_bytes k c) ≡ M * 2 ^ (8 * k) + mirror (8 * k) c =
        ap (number_from_digits 256) (map-append (in_order a.refin 8) bytes (low_bytes k c))
        ∙ number_after_append 256 0 (map (in_order a.refin 8) bytes) (map (in_order a.refin 8) (low_bytes k c))
        ∙ ap (λ o. number_from_digits_after 256 M (map (in_order o 8) (low_bytes k c))) refin
        ∙ low_message k c M in
        let scaled : M * 2 ^ (8 * k) + mirror (8 * k) c ≡ (M * 2 ^ W + mirror W c) * 2 ^ i =
        ap (λ y. M * 2 ^ (8 * k) + y) (mirror_short W i (8 * k) c (sym size) small) ∙ spread M (mirror W c) (2 ^ W) (2 ^ i) (2 ^ (8 * k)) high in
        let whole : M * 2 ^ W + mirror W c ≡ bit_xor (M * 2 ^ W) (bit_xor r X) =
        sym (xor_shifted M W (mirror W c) (mirror_below W c)) ∙ ap (λ y. bit_xor (M * 2 ^ W) y) crc in
        -- the dividend, and what is added to it on both sides
        let left : bit_xor (dividend a bytes) (bit_xor r (bit_xor I X)) ≡ bit_xor (M * 2 ^ W) (bit_xor r X) = rearranged (M * 2 ^ W) I r X in
        let right : bit_xor r (bit_xor r (bit_xor I X)) ≡ bit_xor I X = sum_cancel r (bit_xor I X) in
        let unscaled : Congruent (generator a) (M * 2 ^ W + mirror W c) (bit_xor I X) = subst₂ (λ y z. Congruent (generator a) y z) (left ∙ sym whole) right (sums h.is_remainder (same (bit_xor r (bit_xor I X)))) in
        subst (λ y. Congruent (generator a) y (bit_xor I X * 2 ^ i)) (sym (cut ∙ scaled)) (shifted i unscaled)
      where
        spread : (m c P Q R : ℕ) → R ≡ P * Q → m * R + c * Q ≡ (m * P + c) * Q
        spread m c P Q R e = omega (arith, ap (λ y. m * y) e)

        rearranged : (m i r x : ℕ) → bit_xor (bit_xor m i) (bit_xor r (bit_xor i x)) ≡ bit_xor m (bit_xor r x)
        rearranged m i r x =
            xor_assoc m i (bit_xor r (bit_xor i x))
            ∙ ap (λ y. bit_xor m y) (sym (xor_assoc i r (bit_xor i x)) ∙ ap (λ y. bit_xor y (bit_xor i x)) (xor_comm i r) ∙ xor_assoc r i (bit_xor i x) ∙ ap (λ y. bit_xor r y) (sum_cancel i x))

    -- Checked messages of one length are congruent.
    pub checked_agree : (f g : List ℕ) → length f ≡ length g → IsChecked a k f → IsChecked a k g → Congruent (generator a) (message a.refin f) (message a.refin g)
    unfolding residue
    checked_agree f g len p q =
        let lf : length f ≡ length p.bytes + k = ap length p.joins ∙ length-append p.bytes (low_bytes k p.crc) ∙ ap (λ y. length p.bytes + y) (length_low k p.crc) in
        let lg : length g ≡ length q.bytes + k = ap length q.joins ∙ length-append q.bytes (low_bytes k q.crc) ∙ ap (λ y. length q.bytes + y) (length_low k q.crc) in
        let n : length p.bytes ≡ length q.bytes = omega arith in
        let F : Congruent (generator a) (message a.refin f) (residue (length p.bytes)) = subst (λ y. Congruent (generator a) (message a.refin y) (residue (length p.bytes))) (sym p.joins) (checked_is p.bytes p.crc p.is_crc) in
        let G : Congruent (generator a) (message a.refin g) (residue (length q.bytes)) = subst (λ y. Congruent (generator a) (message a.refin y) (residue (length q.bytes))) (sym q.joins) (checked_is q.bytes q.crc q.is_crc) in
        chain F (back (subst (λ y. Congruent (generator a) (message a.refin g) (residue y)) (sym n) G))

    -- Two checked messages of one length that differ only within `width` bits in a row are the same.
    pub no_burst_in_checked : (f g : List ℕ) → length f ≡ length g → AreBytes f → AreBytes g → IsChecked a k f → IsChecked a k g
        → IsBurst a.width (bit_xor (message a.refin f) (message a.refin g)) → f ≡ g
    no_burst_in_checked f g len bf bg p q burst =
        same_bytes a.refin f g len bf bg (no_burst_between (message a.refin f) (message a.refin g) (checked_agree f g len p q) burst)

    -- And so are two that differ only in bytes in a row, as many as the checksum has or fewer.
    pub replaced_in_checked : (p x y s : List ℕ) → length x ≡ length y → 8 * length x ≤ a.width → AreBytes p → AreBytes x → AreBytes y → AreBytes s
        → IsChecked a k (p ++ x ++ s) → IsChecked a k (p ++ y ++ s) → x ≡ y
    replaced_in_checked p x y s len few bp bx by bs m n =
        let same_length : length (p ++ x ++ s) ≡ length (p ++ y ++ s) = omega (arith, length-append (p ++ x) s, length-append (p ++ y) s, length-append p x, length-append p y) in
        were_same a.refin p x y s len bx by bs
        (no_burst_between (message a.refin (p ++ x ++ s)) (message a.refin (p ++ y ++ s)) (checked_agree (p ++ x ++ s) (p ++ y ++ s) same_length m n)
        (record { bits = bit_xor (message a.refin x) (message a.refin y); place = 8 * length s; is = differ_there a.refin p x y s len bx by bs; short = short a.refin a.width x y len bx by few }))
