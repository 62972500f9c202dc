-- A float that is written in JSON is read as the same bits.
use Prim.Native.Nat.{ℕ, zero, suc, ◌+◌, ◌-◌, ◌*◌, ◌^◌, ◌<◌, ◌≤◌}
use native.Mathlib.Nat.{mul_assoc, mul_comm, mul_right_comm, eq_of_mul-eq-mul_right, mul-lt-mul_of_pos_right, lt_of_mul-lt-mul_right}
use lib.Dec.{T, eqb, ltb→lt, leb→le}
use lib.Pow.{pow-add, pow-lt, pow_pos}
use lib.Ieee.{Float, Format, nan, inf, fin, binary32, binary64, prec, emax, low, up, down, round, fits, of_bits, to_bits, is_nan, top}
use lib.Ieee.Bits.{to_bits-of_bits, of_bits-fits}
use lib.Ieee.Exact.{HasValue, round_exact}
use lib.Ieee.Fits.{round-fits, down_pos}
use Rattle.std.proofs.Common.{◌≡◌, ℤ, pos, negsuc, Bool, true, false, not, ◌&&◌, List, [], ◌∷◌, Some, codes, nat_eq, if◌then◌else◌, refl, sym, ap, subst, ◌∙◌, true≢false, arith, ◌⊎◌, inl, inr}
use Rattle.std.proofs.lemmas.Bool.{cases_lt}
use Rattle.std.proofs.lemmas.Bool.Decides.{Decides-eqb}
use Rattle.std.proofs.lemmas.List.{append_assoc}
use Rattle.std.specs.Fmt.{digits}
use Rattle.std.specs.Float.Numeral.{scan_numeral}
use Rattle.std.specs.Float.Parse.{parse_float, read_float}
use Rattle.std.specs.Float.{float_is_finite, round_to_format}
use Rattle.core.proofs.num.Values.{same_value}
use Rattle.postcard_schema.specs.Leaves.{float_size}
use Rattle.postcard_schema.specs.declared.leaf.Float.{Float as FloatType}
use Rattle.postcard_schema.specs.declared.leaf.Float.TheVariants.{F32, F64}
use Rattle.postcard_value_text.specs.Floats.{AreNan, SpellsFloat, format_of}
use Rattle.postcard_value_text.proofs.FloatTexts.{word_spells, nan_spells}
use Rattle.serde_json.specs.Data.{number, string, float}
use Rattle.postcard_value_json.specs.Written.{float_json, infinity, negative_infinity, special_text, usual_nan}
use Rattle.postcard_value_json_read.specs.Reading.{IsFloatJson, bits_near}

-- ---- rounding

-- A smaller power of 2 has a smaller exponent.
exponent_le : (i j : ℕ) → 2 ^ i ≤ 2 ^ j → i ≤ j
exponent_le i j h = elim (cases_lt j i) [
  | inl more ↦ absurd (omega (arith, h, pow-lt more))
  | inr less ↦ less
]

-- Four conditions that hold together hold each.
parts : (a b c d : Bool) → T (a && b && c && d) → T a × T b × T c × T d
parts true true true true h = (h, h, h, h)
parts a b c d h = absurd h

-- A finite float of the format is a whole number of its smallest value.
record Units (f : Format) (m : ℕ) (e : ℤ) : Type 0 where
  scale : ℕ
  whole : m * up e * 2 ^ low f ≡ m * 2 ^ scale * down e
  few : m < 2 ^ prec f
  small : m * 2 ^ scale < 2 ^ (low f + suc (emax f))

-- If `x / d` is `m / l` and below `e`, then `m` is below `e * l`.
cancel : (x l d e m : ℕ) → 0 < l → 0 < d → x * l ≡ m * d → x < e * d → m < e * l
cancel x l d e m low down same below =
    let more : x * l < e * d * l = mul-lt-mul_of_pos_right below low in
    lt_of_mul-lt-mul_right d (subst (λ n. n < e * l * d) same (subst (λ n. x * l < n) (mul_right_comm e d l) more))

-- A finite float of a format is a count of its least units.
units_of : (f : Format) (s : Bool) (m : ℕ) (e : ℤ) → T (fits f (fin s m e)) → Units f m e
unfolding fits
units_of f s zero e h = record { scale = 0; whole = omega arith; few = pow_pos (prec f); small = omega (arith, pow_pos (low f + suc (emax f))) }
units_of f s (suc m) (pos n) h =
    let k = parts _ _ _ _ h in
    let whole : suc m * 2 ^ n * 2 ^ low f ≡ suc m * 2 ^ (n + low f) * 1 = mul_assoc (suc m) (2 ^ n) (2 ^ low f) ∙ ap (λ (x : ℕ). suc m * x) (sym (pow-add 2 n (low f))) ∙ omega arith in
    record {
      scale = n + low f;
      whole = whole;
      few = ltb→lt (suc m) (2 ^ prec f) k.1;
      small = subst (λ (x : ℕ). suc m * 2 ^ (n + low f) < x) (mul_comm (2 ^ suc (emax f)) (2 ^ low f) ∙ sym (pow-add 2 (low f) (suc (emax f))))
          (cancel (suc m * 2 ^ n) (2 ^ low f) 1 (2 ^ suc (emax f)) (suc m * 2 ^ (n + low f)) (pow_pos (low f)) (omega arith) whole (ltb→lt (suc m * 2 ^ n) (2 ^ suc (emax f) * 1) k.3));
    }
units_of f s (suc m) (negsuc n) h =
    let k = parts _ _ _ _ h in
    let le : suc n ≤ low f = exponent_le (suc n) (low f) (leb→le (2 ^ suc n) (2 ^ low f) k.2) in
    let back : low f - suc n + suc n ≡ low f = omega (arith, le) in
    let whole : suc m * 1 * 2 ^ low f ≡ suc m * 2 ^ (low f - suc n) * 2 ^ suc n =
    omega arith ∙ ap (λ (x : ℕ). suc m * 2 ^ x) (sym back) ∙ ap (λ (x : ℕ). suc m * x) (pow-add 2 (low f - suc n) (suc n)) ∙ sym (mul_assoc (suc m) (2 ^ (low f - suc n)) (2 ^ suc n)) in
    record {
      scale = low f - suc n;
      whole = whole;
      few = ltb→lt (suc m) (2 ^ prec f) k.1;
      small = subst (λ (x : ℕ). suc m * 2 ^ (low f - suc n) < x) (mul_comm (2 ^ suc (emax f)) (2 ^ low f) ∙ sym (pow-add 2 (low f) (suc (emax f))))
          (cancel (suc m * 1) (2 ^ low f) (2 ^ suc n) (2 ^ suc (emax f)) (suc m * 2 ^ (low f - suc n)) (pow_pos (low f)) (pow_pos (suc n)) whole (ltb→lt (suc m * 1) (2 ^ suc (emax f) * 2 ^ suc n) k.3));
    }

-- From one fraction to another of the same size.
rescale : (x : Float) (s : Bool) (a c b d : ℕ) → 0 < c → b * c ≡ a * d → HasValue x s a c → HasValue x s b d
rescale (fin t m e) s a c b d above same h = (
  h.0,
  eq_of_mul-eq-mul_right c above (m * up e * d) (b * down e)
      (mul_right_comm (m * up e) d c ∙ ap (λ (x : ℕ). x * d) h.1 ∙ mul_right_comm a (down e) d ∙ ap (λ (x : ℕ). x * down e) (sym same) ∙ mul_right_comm b c (down e)),
)
rescale x s a c b d above same h = h

-- Rounding changes no float of the format.
pub rounds_to_itself : (f : Format) (x : Float) → T (fits f x) → round_to_format f x ≡ x
unfolding round_to_format
rounds_to_itself f nan h = refl
rounds_to_itself f (inf s) h = refl
rounds_to_itself f (fin s m e) h =
    let u = units_of f s m e h in
    let value : HasValue (round f s (m * up e) (down e)) s (m * up e) (down e) = round_exact f s (m * up e) (down e) m u.scale (down_pos e) u.few u.small u.whole in
    same_value f (round f s (m * up e) (down e)) (fin s m e) s (m * 2 ^ u.scale) (round-fits f s (m * up e) (down e)) h
    (rescale (round f s (m * up e) (down e)) s (m * up e) (down e) (m * 2 ^ u.scale) (2 ^ low f) (down_pos e) (sym u.whole) value) (refl, u.whole)

-- ---- numbers

-- A finite float is no NaN.
finite_no_nan : (x : Float) → float_is_finite x ≡ true → T (not (is_nan x))
unfolding float_is_finite is_nan
finite_no_nan nan e = absurd (cc e)
finite_no_nan (inf s) e = tt
finite_no_nan (fin s m e) is = tt

-- The bits of a finite float are those of the number that is written of it.
number_back : (f : FloatType) (bits : ℕ) → bits < 2 * top (format_of f) → float_is_finite (of_bits (format_of f) bits) ≡ true → bits ≡ bits_near f (of_bits (format_of f) bits)
number_back F32 bits low finite =
    let x = of_bits binary32 bits in
    sym (ap (to_bits binary32) (rounds_to_itself binary32 x (of_bits-fits binary32 bits)) ∙ to_bits-of_bits binary32 bits low (finite_no_nan x finite))
number_back F64 bits low finite = sym (to_bits-of_bits binary64 bits low (finite_no_nan (of_bits binary64 bits) finite))

-- ---- other floats

-- The words that are written in place of the infinities and of a NaN, as they are read.
words_read : (f : Format) → (parse_float f (codes "inf") ≡ Some (inf false)) × (parse_float f (codes "-inf") ≡ Some (inf true)) × (parse_float f (codes "nan") ≡ Some nan)
unfolding read_float scan_numeral
words_read f = (refl, refl, refl)

-- Bits that are not finite, nor those of the infinities, are a NaN's.
other_nan : (f : Format) (bits : ℕ) → bits < 2 * top f → float_is_finite (of_bits f bits) ≡ false → (bits ≡ to_bits f (inf false) → ⊥) → (bits ≡ to_bits f (inf true) → ⊥) → is_nan (of_bits f bits) ≡ true
unfolding float_is_finite is_nan
other_nan f bits low other plus minus = by (of_bits f bits) refl
  where
    bits_of : (s : Bool) → of_bits f bits ≡ inf s → bits ≡ to_bits f (inf s)
    bits_of s e = sym (to_bits-of_bits f bits low (subst (λ y. T (not (is_nan y))) (sym e) tt)) ∙ ap (to_bits f) e

    by : (x : Float) → of_bits f bits ≡ x → is_nan x ≡ true
    by nan e = refl
    by (inf false) e = absurd (plus (bits_of false e))
    by (inf true) e = absurd (minus (bits_of true e))
    by (fin s m k) e = absurd (cc (sym (ap float_is_finite e) ∙ other))

-- What holds of both branches holds of the choice.
choose : (P : List ℕ → Type 0) (b : Bool) (u v : List ℕ) → (b ≡ true → P u) → (b ≡ false → P v) → P (if b then u else v)
choose P true u v f g = f refl
choose P false u v f g = g refl

-- The bits for which these words are written.
word_bits : (f : FloatType)
    → (to_bits (format_of f) (inf false) ≡ infinity f) × (to_bits (format_of f) (inf true) ≡ negative_infinity f) × (to_bits (format_of f) nan ≡ usual_nan f)
unfolding to_bits
word_bits F32 = (refl, refl, refl)
word_bits F64 = (refl, refl, refl)

-- The word of bits that are not finite is read as these bits.
special_spells : (t : FloatType) (bits : ℕ) → bits < 2 * top (format_of t) → bits < 16 ^ 64 → float_is_finite (of_bits (format_of t) bits) ≡ false
    → SpellsFloat (format_of t) bits (special_text t bits)
special_spells t bits low few other =
    let f = format_of t in
    let (inf_reads, minus_reads, nan_reads) = words_read f in
    let (plus_is, minus_is, usual_is) = word_bits t in
    choose (SpellsFloat f bits) (nat_eq bits (infinity t)) _ _ (λ is. word_spells f bits (inf false) (codes "inf") inf_reads ((Decides-eqb bits (infinity t)).0 is ∙ sym plus_is)) (λ no_plus.
    choose (SpellsFloat f bits) (nat_eq bits (negative_infinity t)) _ _ (λ is. word_spells f bits (inf true) (codes "-inf") minus_reads ((Decides-eqb bits (negative_infinity t)).0 is ∙ sym minus_is)) (λ no_minus.
    choose (SpellsFloat f bits) (nat_eq bits (usual_nan t)) _ _ (λ is. word_spells f bits nan (codes "nan") nan_reads ((Decides-eqb bits (usual_nan t)).0 is ∙ sym usual_is)) (λ unusual.
    let are : AreNan f bits = (
      low,
      other_nan f bits low other
          (λ is. true≢false (sym ((Decides-eqb bits (infinity t)).1 (is ∙ plus_is)) ∙ no_plus)) (λ is. true≢false (sym ((Decides-eqb bits (negative_infinity t)).1 (is ∙ minus_is)) ∙ no_minus)),
    ) in
    subst (SpellsFloat f bits) (sym (append_assoc (codes "nan(0x") (digits 16 false bits) (41 ∷ []))) (nan_spells f bits are few))))

-- Bits of as many bytes as a float has are within its format, and have at most 64 hexadecimal digits.
float_limits : (f : FloatType) (bits : ℕ) → bits < 256 ^ float_size f → (bits < 2 * top (format_of f)) × (bits < 16 ^ 64)
float_limits F32 bits low = (omega (arith, low), omega (arith, low))
float_limits F64 bits low = (omega (arith, low), omega (arith, low))

-- The JSON of a float has its bits.
pub float_back : (f : FloatType) (bits : ℕ) → bits < 256 ^ float_size f → IsFloatJson f bits (float_json f bits)
float_back f bits below = by (float_is_finite (of_bits (format_of f) bits)) refl
  where
    by : (b : Bool) → float_is_finite (of_bits (format_of f) bits) ≡ b → IsFloatJson f bits (if b then number (float (of_bits (format_of f) bits)) else string (special_text f bits))
    by true finite = number_back f bits (float_limits f bits below).0 finite
    by false other = special_spells f bits (float_limits f bits below).0 (float_limits f bits below).1 other
