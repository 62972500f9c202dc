-- The shapes of floating-point numbers: an array of the bytes of their bits, the lowest byte first
-- (wire format 1.0, "f32" and "f64").
use Rattle.std.specs.Prelude.{◌≡◌, ℕ, ◌*◌, ◌<◌, ◌^◌, List, T}
use Rattle.std.specs.Float.{Float, Format, binary32, binary64}
use Rattle.std.specs.Float.Ieee.{fits, top, to_bits, of_bits}
use Rattle.std.proofs.Common.{refl, sym, ap, subst, ◌∙◌}
use lib.Ieee.Bits.{of_bits-to_bits, to_bits-lt}
use Rattle.postcard_wire.specs.Tree.{Tree}
use Rattle.postcard_shape.specs.Base256.{low_first, low_value, low_counts, low_bytes, low_worth}
use Rattle.postcard_shape.specs.Leaves.{byte}
use Rattle.postcard_shape.specs.Lists.{array, same_list}
use Rattle.postcard_shape.specs.Shape.{HasOne, Shape, never}

-- The number of bytes of a float: 4 for an `f32`, and 8 for an `f64`.
abbrev pub float_len : Format → ℕ
float_len binary32 = 4
float_len binary64 = 8

-- The bytes of a float's bits, the lowest first. Each NaN has the bits of the one that is quiet and
-- positive and has no payload: 7FC00000, or 7FF8000000000000.
abbrev pub float_bytes : Format → Float → List ℕ
float_bytes f x = low_first (float_len f) (to_bits f x)

-- The tree of a float: the array of its bytes.
abbrev pub float_tree : Format → Float → Tree
float_tree f x = (array (float_len f) byte).tree (float_bytes f x)

-- The tree is the array of some bytes, and x is the float whose bits these are. All bits of a NaN
-- are those of the one NaN.
abbrev pub IsFloat : Format → Tree → Float → Type 0
IsFloat f t x = (p : List ℕ) × (array (float_len f) byte).value t p × (x ≡ of_bits f (low_value p))

module _ (f : Format) where
  -- The floats of one tree are equal.
  pub float_one : HasOne (IsFloat f) (λ x y. x ≡ y)
  float_one t x y (p, a, e) (q, b, k) =
      let same : p ≡ q = same_list p q ((array (float_len f) byte).one_value t p q a b) in
      e ∙ (ap (λ (bs : List ℕ). of_bits f (low_value bs)) same ∙ sym k)

-- The bits of a float have as many values as its bytes.
bits_and_bytes : (f : Format) → 2 * top f ≡ 256 ^ float_len f
bits_and_bytes binary32 = refl
bits_and_bytes binary64 = refl

module _ (f : Format) where
  -- The tree that a float is written as is read, and as that float.
  pub float_again : (x : Float) → T (fits f x)
      → (array (float_len f) byte).reads (float_tree f x) × IsFloat f (float_tree f x) x
  float_again x h =
      let n = to_bits f x in
      let k = float_len f in
      let again = (array k byte).again (low_first k n) (low_counts k n, low_bytes k n) in
      let below : n < 256 ^ k = subst (λ m. n < m) (bits_and_bytes f) (to_bits-lt f x h) in
      let back : of_bits f (low_value (low_first k n)) ≡ x =
      ap (of_bits f) (low_worth k n below) ∙ of_bits-to_bits f x h in
      (again.0, (low_first k n, again.1, sym back))

-- The shape of an `f32` or an `f64`.
abbrev pub float : Format → Shape Float
float f = record {
  tree = float_tree f;
  refusal = λ x. never;
  text = ⊥;
  reads = (array (float_len f) byte).reads;
  value = IsFloat f;
  same = λ x y. x ≡ y;
  other = never;
  fits = λ x. T (fits f x);
  delimited = (array (float_len f) byte).delimited;
  well_formed = (array (float_len f) byte).well_formed;
  one_value = float_one f;
  again = float_again f;
}
