-- Floats many at a time, in the lanes of a vector: the bits of each, and the bytes of all.
use Rattle.std.proofs.Common.{◌≡◌, ℕ, zero, suc, ◌+◌, ◌-◌, ◌*◌, ◌/◌, ◌%◌, ◌^◌, ◌<◌, List, [], ◌∷◌, ◌++◌, length, Bool, true, false, refl, sym, ap, ap₂, subst, ◌∙◌, arith}
use Rattle.std.specs.Prelude.{map, T, not}
use Rattle.std.specs.Float.{Float, Format, binary32, binary64}
use Rattle.std.specs.Float.Ieee.{to_bits, of_bits, is_nan, ne, fits}
use Rattle.std.proofs.Math.Nat.{pow-zero, pow-suc, mul_assoc, mul_comm}
use Rattle.core.proofs.num.Patterns.{differs, tested, bits_of_nan}
use mathlib.Core.Bool.{cond}
use lib.Ieee.{top as steps}
use lib.Ieee.Bits.{to_bits-lt}
use lib.Bits.{bit_or}
use Rattle.std.specs.Int.Bits.{or_zero_l, or_zero_r}
use lib.ListN.{replicate}
use lib.Lanes.{zip2, sel_l, top, Each1, number_l, digits_l}
use borrow.Rule.Simd.Lanes.{act1, act2, Asks1}
use borrow.Table.Row.{s_float, s_int}
use mir.Syntax.{mask, float_ne, float_to_bits}
use mir.Val.{bits, hbits, width_of}
use Rattle.postcard_wire.specs.Spelling.{canonical_all}
use Rattle.postcard_wire.specs.Tree.{trees}
use Rattle.postcard_shape.specs.Base256.{low_first}
use Rattle.postcard_shape.specs.Floats.{float_len, float_bytes, float_tree}
use Rattle.postcard_shape.specs.Lists.{AllFit}
use Rattle.postcard_shape.proofs.Bytes.{bytes_of_bytes}

-- What is selected by a mask lane by lane, where a lane of the mask depends on the number alone.
module _ (h : ℕ) (act : Float → Float → ℕ) (z : Float) where
  -- A fact of each lane that is selected.
  pub each_asked : (P : Float → Type 0) → ((a : Float) → P (cond (top h (act a a)) z a)) → (n : ℕ) (xs : List Float)
      → Each1 P (sel_l (map (top h) (zip2 act xs xs)) (replicate n z) xs)
  each_asked P asked n [] = tt
  each_asked P asked zero (x ∷ xs) = tt
  each_asked P asked (suc n) (x ∷ xs) = (asked x, each_asked P asked n xs)

  -- What is computed of each lane that is selected, and k in place of the others, for which zero is computed.
  pub each_is : (k : ℕ) (t : Float → ℕ) {g : Float → ℕ}
      → ((a : Float) → bit_or (t (cond (top h (act a a)) z a)) (cond (top h (act a a)) k 0) ≡ g a) → (n : ℕ) (xs : List Float) → length xs ≡ n
      → zip2 bit_or (map t (sel_l (map (top h) (zip2 act xs xs)) (replicate n z) xs)) (sel_l (map (top h) (zip2 act xs xs)) (replicate n k) (replicate n 0))
      ≡ map g xs
  each_is k t is n [] l = refl
  each_is k t is zero (x ∷ xs) l = absurd (omega (arith, l))
  each_is k t is (suc n) (x ∷ xs) l = ap₂ (λ y ys. y ∷ ys) (is x) (each_is k t is n xs (omega (arith, l)))

-- Zero is a number.
zero_is : (f : Format) → T (not (is_nan (of_bits f 0)))
unfolding of_bits is_nan
zero_is binary32 = tt
zero_is binary64 = tt

-- The lane of a number in the mask of those that differ from themselves, which are the NaNs.
abbrev pub mask_lane : Format → Float → Float → ℕ
mask_lane f = act2 (mask float_ne) (s_float f) (s_float f) (s_int (width_of f))

-- The lane of a number's bits.
abbrev pub bits_lane : Format → Float → ℕ
bits_lane f = act1 float_to_bits (s_float f) (s_int (width_of f))

-- The bits of the usual NaN.
abbrev pub usual : Format → ℕ
usual binary32 = 2143289344
usual binary64 = 9221120237041090560

-- No bits of a NaN are asked for: zero is in its place.
asked_if : (f : Format) (a : Float) (b : Bool) → b ≡ ne a a
    → Asks1 float_to_bits (s_float f) (cond (top (hbits (width_of f)) (cond b (2 ^ bits (width_of f) - 1) zero)) (of_bits f 0) a)
asked_if binary32 a true e = zero_is binary32
asked_if binary32 a false e = tested a false (e ∙ differs a) refl
asked_if binary64 a true e = zero_is binary64
asked_if binary64 a false e = tested a false (e ∙ differs a) refl

asked_of : (f : Format) (a : Float) → Asks1 float_to_bits (s_float f) (cond (top (hbits (width_of f)) (mask_lane f a a)) (of_bits f 0) a)
asked_of binary32 a = asked_if binary32 a (ne a a) refl
asked_of binary64 a = asked_if binary64 a (ne a a) refl

-- The bits of zero are none.
zero_bits : (f : Format) → bits_lane f (of_bits f 0) ≡ 0
unfolding of_bits to_bits
zero_bits binary32 = refl
zero_bits binary64 = refl

-- The bits of the usual NaN are in the place of a NaN's.
bits_if : (f : Format) (a : Float) (b : Bool) → b ≡ ne a a
    → bit_or (bits_lane f (cond (top (hbits (width_of f)) (cond b (2 ^ bits (width_of f) - 1) zero)) (of_bits f 0) a))
    (cond (top (hbits (width_of f)) (cond b (2 ^ bits (width_of f) - 1) zero)) (usual f) 0)
    ≡ to_bits f a
bits_if binary32 a true e = ap (λ n. bit_or n (usual binary32)) (zero_bits binary32) ∙ or_zero_l (usual binary32) ∙ bits_of_nan binary32 a (sym e)
bits_if binary32 a false e = or_zero_r (to_bits binary32 a)
bits_if binary64 a true e = ap (λ n. bit_or n (usual binary64)) (zero_bits binary64) ∙ or_zero_l (usual binary64) ∙ bits_of_nan binary64 a (sym e)
bits_if binary64 a false e = or_zero_r (to_bits binary64 a)

bits_of : (f : Format) (a : Float)
    → bit_or (bits_lane f (cond (top (hbits (width_of f)) (mask_lane f a a)) (of_bits f 0) a)) (cond (top (hbits (width_of f)) (mask_lane f a a)) (usual f) 0)
    ≡ to_bits f a
bits_of binary32 a = bits_if binary32 a (ne a a) refl
bits_of binary64 a = bits_if binary64 a (ne a a) refl

module _ (f : Format) where
  -- No lane's bits are asked for where it is a NaN.
  pub lanes_asked : (n : ℕ) (xs : List Float)
      → Each1 (Asks1 float_to_bits (s_float f)) (sel_l (map (top (hbits (width_of f))) (zip2 (mask_lane f) xs xs)) (replicate n (of_bits f 0)) xs)
  lanes_asked = each_asked (hbits (width_of f)) (mask_lane f) (of_bits f 0) (Asks1 float_to_bits (s_float f)) (asked_of f)

  -- The lanes are the bits of the numbers.
  pub lanes_are : (n : ℕ) (xs : List Float) → length xs ≡ n
      → zip2 bit_or (map (bits_lane f) (sel_l (map (top (hbits (width_of f))) (zip2 (mask_lane f) xs xs)) (replicate n (of_bits f 0)) xs))
      (sel_l (map (top (hbits (width_of f))) (zip2 (mask_lane f) xs xs)) (replicate n (usual f)) (replicate n 0))
      ≡ map (to_bits f) xs
  lanes_are = each_is (hbits (width_of f)) (mask_lane f) (of_bits f 0) (usual f) (bits_lane f) (bits_of f)

-- The digits of two numbers in one are those of the first, and then those of the second.
split_digits : (k m x r : ℕ) → x < 256 ^ k → digits_l 256 (k + m) (x + 256 ^ k * r) ≡ low_first k x ++ digits_l 256 m r
split_digits zero m x r h =
    let one = ap (λ p. p * r) (pow-zero 256) in
    ap₂ (λ n y. digits_l 256 n y) (omega arith) (omega (arith, h, pow-zero 256, one))
split_digits (suc k) m x r h =
    let p = pow-suc 256 k in
    let q : 256 ^ suc k * r ≡ 256 * (256 ^ k * r) = ap (λ n. n * r) (p ∙ mul_comm (256 ^ k) 256) ∙ mul_assoc 256 (256 ^ k) r in
    let more : suc k + m ≡ suc (k + m) = omega arith in
    let below : x / 256 < 256 ^ k = omega (arith, h, p) in
    let first : (x + 256 ^ suc k * r) % 256 ≡ x % 256 = omega (arith, q) in
    let rest : (x + 256 ^ suc k * r) / 256 ≡ x / 256 + 256 ^ k * r = omega (arith, q) in
    ap (λ n. digits_l 256 n (x + 256 ^ suc k * r)) more
    ∙ ap₂ (λ b bs. b ∷ bs) first (ap (digits_l 256 (k + m)) rest ∙ split_digits k m (x / 256) r below)

-- The number of bytes of the floats xs.
abbrev pub bytes_count : Format → List Float → ℕ
bytes_count f [] = 0
bytes_count f (x ∷ xs) = float_len f + bytes_count f xs

-- The bytes of a vector of the floats' bits are their encodings, one after the other.
pub lane_bytes : (f : Format) (xs : List Float) → Each1 (λ x. to_bits f x < 256 ^ float_len f) xs
    → digits_l 256 (bytes_count f xs) (number_l (256 ^ float_len f) (map (to_bits f) xs)) ≡ canonical_all (trees (map (float_tree f) xs))
lane_bytes f [] h = refl
lane_bytes f (x ∷ xs) h =
    split_digits (float_len f) (bytes_count f xs) (to_bits f x) (number_l (256 ^ float_len f) (map (to_bits f) xs)) h.0
    ∙ ap₂ (λ a b. a ++ b) (sym (bytes_of_bytes (float_bytes f x))) (lane_bytes f xs h.1)

-- The bits of a float have as many values as its bytes.
bits_and_bytes : (f : Format) → 2 * steps f ≡ 256 ^ float_len f
bits_and_bytes binary32 = refl
bits_and_bytes binary64 = refl

-- Floats of the format have bits that are below the power of two of its width.
pub bits_below : (f : Format) (xs : List Float) → AllFit (λ x. T (fits f x)) xs → Each1 (λ x. to_bits f x < 256 ^ float_len f) xs
bits_below f [] h = tt
bits_below f (x ∷ xs) h = (subst (λ m. to_bits f x < m) (bits_and_bytes f) (to_bits-lt f x h.0), bits_below f xs h.1)
