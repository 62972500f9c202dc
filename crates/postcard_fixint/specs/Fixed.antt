-- The shape of a number that is written as its bytes, as many as its type has (behaviour of
-- postcard 1.1.3, module `fixint`).
use Rattle.std.specs.Prelude.{◌≡◌, ℕ, suc, ◌-◌, ◌*◌, ◌<◌, ◌^◌, List, ℤ, pos, negsuc}
use Rattle.std.proofs.Common.{refl, sym, ap, ◌∙◌, arith}
use Rattle.std.proofs.lemmas.Int.{ints}
use Rattle.postcard_wire.specs.Number.{InRange}
use Rattle.postcard_wire.specs.Tree.{Tree}
use Rattle.postcard_shape.specs.Leaves.{byte}
use Rattle.postcard_shape.specs.Lists.{array, same_list}
use Rattle.postcard_shape.specs.Shape.{HasOne, Shape, never, IsWilling}
use Rattle.postcard_shape.specs.Base256.{Order}

-- A type of numbers of a fixed width.
pub record FixedWidth (V : Type 0) : Type 1 where
  -- The number of bytes that a number has.
  pub size : ℕ
  -- A number modulo 256 ^ size.
  pub modulo : V → ℕ
  -- The number is one of the type.
  pub fits : V → Type 0
  -- Different numbers of the type are different modulo 256 ^ size.
  pub below : (v : V) → fits v → modulo v < 256 ^ size
  pub one : (v w : V) → fits v → fits w → modulo v ≡ modulo w → v ≡ w

-- Unsigned numbers of k bytes.
abbrev pub unsigned : ℕ → FixedWidth ℕ
unsigned k = record {
  size = k;
  modulo = λ n. n;
  fits = λ n. n < 256 ^ k;
  below = λ n f. f;
  one = λ n m f g e. e;
}

-- A signed number of k bytes modulo 256 ^ k, where `negsuc n` is -n - 1: in two's complement.
abbrev pub twos_complement : ℕ → ℤ → ℕ
twos_complement k (pos n) = n
twos_complement k (negsuc n) = 256 ^ k - suc n

module _ (k w : ℕ) (halves : 256 ^ k ≡ 2 * 2 ^ (w - 1)) where
  -- The two's complement of a number of w bits has k bytes.
  pub signed_below : (z : ℤ) → InRange w z → twos_complement k z < 256 ^ k
  signed_below (pos n) f = omega (arith, ints, halves, f.0, f.1)
  signed_below (negsuc n) f = omega (arith, ints, halves, f.0, f.1)

  -- Different numbers of w bits have different two's complements.
  pub signed_one : (y z : ℤ) → InRange w y → InRange w z
      → twos_complement k y ≡ twos_complement k z → y ≡ z
  signed_one (pos n) (pos m) f g e = ap pos e
  signed_one (pos n) (negsuc m) f g e = absurd (omega (arith, ints, halves, f.0, f.1, g.0, g.1))
  signed_one (negsuc n) (pos m) f g e = absurd (omega (arith, ints, halves, f.0, f.1, g.0, g.1))
  signed_one (negsuc n) (negsuc m) f g e =
      let same : n ≡ m = omega (arith, ints, halves, f.0, f.1, g.0, g.1) in
      ap negsuc same

-- Signed numbers of k bytes, which are w bits.
abbrev pub signed : (k w : ℕ) → 256 ^ k ≡ 2 * 2 ^ (w - 1) → FixedWidth ℤ
signed k w halves = record {
  size = k;
  modulo = twos_complement k;
  fits = InRange w;
  below = signed_below k w halves;
  one = signed_one k w halves;
}

-- The tree is the array of some bytes, and v is the number of the type that has their value.
abbrev pub IsFixed : {V : Type 0} → Order → FixedWidth V → Tree → V → Type 0
IsFixed order width t v = (p : List ℕ) × (array width.size byte).value t p
    × (order.value p ≡ width.modulo v) × width.fits v

module _ {V : Type 0} (order : Order) (width : FixedWidth V) where
  -- A tree is that of at most one number.
  pub fixed_one : HasOne (IsFixed order width) (λ v w. v ≡ w)
  fixed_one t v w (p, a, h, f) (q, b, k, g) =
      let e : p ≡ q = same_list p q ((array width.size byte).one_value t p q a b) in
      width.one v w f g (sym h ∙ (ap order.value e ∙ k))

  -- The tree that a number is written as is read, and as that number.
  pub fixed_again : (v : V) → width.fits v
      → let t = (array width.size byte).tree (order.spell width.size (width.modulo v)) in
      (array width.size byte).reads t × IsFixed order width t v
  fixed_again v f =
      let n = width.modulo v in
      let p = order.spell width.size n in
      let fitting : (array width.size byte).fits p =
      (order.counts width.size n, order.bytes width.size n) in
      let again = (array width.size byte).again p fitting in
      (again.0, (p, again.1, order.worth width.size n (width.below v f), f))

-- A number of a fixed width: the array of its bytes.
abbrev pub fixed : {V : Type 0} → Order → FixedWidth V → Shape V
fixed order width = record {
  tree = λ v. (array width.size byte).tree (order.spell width.size (width.modulo v));
  refusal = λ v. never;
  text = ⊥;
  reads = (array width.size byte).reads;
  value = IsFixed order width;
  same = λ v w. v ≡ w;
  other = never;
  fits = width.fits;
  delimited = (array width.size byte).delimited;
  well_formed = (array width.size byte).well_formed;
  one_value = fixed_one order width;
  again = fixed_again order width;
}

-- The shape s is that of arrays of k bytes, if `list` returns an array's bytes.
pub record IsByteArray {B : Type 0} (s : Shape B) (list : B → List ℕ) (k : ℕ) : Type 0 where
  pub tree : (b : B) → s.tree b ≡ (array k byte).tree (list b)
  pub reads : (t : Tree) → s.reads t → (array k byte).reads t
  pub all : (t : Tree) → (array k byte).reads t → s.reads t
  pub value : (t : Tree) (b : B) → s.value t b → (array k byte).value t (list b)
  pub accepted : (b : B) → IsWilling s b
  pub silent : s.text → ⊥

-- The shape of arrays of k bytes is such a shape.
pub byte_array : (k : ℕ) → IsByteArray (array k byte) (λ xs. xs) k
byte_array k = record {
  tree = λ b. refl;
  reads = λ t r. r;
  all = λ t r. r;
  value = λ t b h. h;
  accepted = λ b. record { has_none = λ e h. h.4 };
  silent = λ h. h;
}
