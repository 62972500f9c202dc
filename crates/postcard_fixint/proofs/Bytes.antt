-- std's bytes of a number are those of base 256, at every width, also for signed numbers.
use Rattle.std.proofs.Common.{◌≡◌, ℕ, zero, suc, ◌-◌, ◌/◌, ◌%◌, ◌<◌, ◌^◌, List, [], ◌∷◌, length}
use Rattle.std.proofs.Common.{get_or, ℤ, pos, negsuc, refl, sym, ap, ap₂, subst, ◌∙◌, arith}
use Rattle.std.specs.Prelude.{reverse}
use Rattle.std.proofs.lemmas.List.{length-reverse}
use Rattle.std.proofs.Math.Nat.{pow-suc, div-div-eq-div-mul}
use Rattle.std.proofs.lemmas.Int.{of_z-to_z, to_z-of_z}
use Rattle.std.specs.Int.{Width, w8, w16, w32, w64, w128, byte_at, byte_len, bytes_low_first}
use Rattle.std.specs.Int.{cast_signed, cast_unsigned, from_le_bytes, from_be_bytes}
use mir.Val.{bits, SFits}
use Rattle.postcard_shape.specs.Base256.{low_first, low_value, AreBytes, reversed_bytes}
use Rattle.postcard_fixint.specs.Fixed.{twos_complement}
use Rattle.postcard_shape.proofs.Sums.{little_bytes, little_sum, big_sum}

-- The value of bytes is below 256 to the power of their number.
value_below : (bs : List ℕ) → AreBytes bs → low_value bs < 256 ^ length bs
value_below [] small = omega arith
value_below (b ∷ bs) small =
    let p = pow-suc 256 (length bs) in
    let rest = value_below bs small.1 in
    omega (arith, small.0)

-- The elements of an array of bytes are bytes.
are_bytes : (bs : List ℕ) → ((i : ℕ) → get_or bs i 0 < 256) → AreBytes bs
are_bytes [] small = tt
are_bytes (b ∷ bs) small = (small 0, are_bytes bs (λ i. small (suc i)))

-- The bytes of a width have as many values as its bits.
powers : (w : Width) → 256 ^ byte_len w ≡ 2 ^ bits w
powers w8 = refl
powers w16 = refl
powers w32 = refl
powers w64 = refl
powers w128 = refl

-- A width has at least one byte.
one_byte : (w : Width) → byte_len w ≡ suc (byte_len w - 1)
one_byte w8 = refl
one_byte w16 = refl
one_byte w32 = refl
one_byte w64 = refl
one_byte w128 = refl

module _ (w : Width) where
  -- The two's complement of a number is what std casts it to.
  as_cast : (z : ℤ) → twos_complement (byte_len w) z ≡ cast_unsigned w z
  as_cast (pos n) = refl
  as_cast (negsuc n) = rw (powers w) refl

  -- The signed number that n is cast to has the two's complement n, also after a cast there and
  -- back.
  cast_back : (z : ℤ) (n : ℕ) → n < 2 ^ bits w → z ≡ cast_signed w n
      → twos_complement (byte_len w) (cast_signed w (cast_unsigned w z)) ≡ n
  cast_back z n f e =
      let back = of_z-to_z w n f in
      let seen = ap (λ y. cast_signed w (cast_unsigned w y)) e ∙ ap (cast_signed w) back in
      ap (twos_complement (byte_len w)) seen ∙ as_cast (cast_signed w n) ∙ back

  -- The same if n is the value of as many bytes as the width has.
  value_back : (z : ℤ) (n : ℕ) (bs : List ℕ) → length bs ≡ byte_len w → AreBytes bs
      → n ≡ low_value bs → z ≡ cast_signed w n
      → twos_complement (byte_len w) (cast_signed w (cast_unsigned w z)) ≡ low_value bs
  value_back z n bs l small e c =
      let power : 256 ^ length bs ≡ 2 ^ bits w = ap (λ k. 256 ^ k) l ∙ powers w in
      let below = subst (λ m. m < 256 ^ length bs) (sym e) (value_below bs small) in
      cast_back z n (subst (λ m. n < m) power below) c ∙ e

  -- The bytes of a signed number, the lowest first, are those of its two's complement.
  pub little_signed : (z : ℤ) → SFits w z
      → bytes_low_first 0 (byte_len w) (cast_unsigned w (cast_signed w (cast_unsigned w z)))
      ≡ low_first (byte_len w) (twos_complement (byte_len w) z)
  little_signed z f =
      let seen = ap (cast_unsigned w) (to_z-of_z w z f) ∙ sym (as_cast z) in
      little_bytes (byte_len w) _ ∙ ap (low_first (byte_len w)) seen

  -- The two's complement of a signed number made of bytes, the lowest first, is their value.
  pub little_value : (z : ℤ) (bs : List ℕ) → length bs ≡ byte_len w
      → ((i : ℕ) → get_or bs i 0 < 256) → z ≡ cast_signed w (from_le_bytes w bs)
      → twos_complement (byte_len w) (cast_signed w (cast_unsigned w z)) ≡ low_value bs
  little_value z bs l small c =
      let sum = little_sum bs (byte_len w - 1) (l ∙ one_byte w) in
      value_back z (from_le_bytes w bs) bs l (are_bytes bs small) sum c

  -- The two's complement of a signed number made of bytes, the highest first, is their value.
  pub big_value : (z : ℤ) (bs : List ℕ) → length bs ≡ byte_len w
      → ((i : ℕ) → get_or bs i 0 < 256) → z ≡ cast_signed w (from_be_bytes w bs)
      → twos_complement (byte_len w) (cast_signed w (cast_unsigned w z)) ≡ low_value (reverse bs)
  big_value z bs l small c =
      let sum = big_sum bs (byte_len w - 1) (l ∙ one_byte w) in
      let turned = reversed_bytes bs (are_bytes bs small) in
      value_back z (from_be_bytes w bs) (reverse bs) (length-reverse bs ∙ l) turned sum c
