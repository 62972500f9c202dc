-- A varint of fewer bits is one of more bits: a wider type serves a narrower one of the same sign.
use Rattle.std.proofs.Common.{◌≡◌, ℕ, zero, suc, ◌+◌, ◌-◌, ◌*◌, ◌<◌, ◌≤◌, ◌^◌, inl, inr, List, ℤ, refl, sym, ap, subst, ◌∙◌, arith, Bool, true, false}
use Rattle.std.proofs.lemmas.Bool.{true≢false}
use mathlib.Core.Bool.{beq}
use Rattle.std.proofs.Math.Nat.{pow-succ'}
use Rattle.postcard_wire.specs.Number.{zigzag, SpellsNum}
use Rattle.postcard_wire.specs.Tree.{Tree, Num, Int, IsWidth}
use Rattle.postcard_wire.specs.Reading.{IsNum, IsInt}
use Rattle.postcard_wire.specs.Spelling.{Spells}
use Rattle.postcard_wire.proofs.Ranged.{zig_below, in_range}
use Rattle.postcard_schema.specs.declared.leaf.Integer.{Integer}
use Rattle.postcard_schema.specs.declared.leaf.Integer.TheVariants.{U8, U16, U32, U64, U128, I8, I16, I32, I64, I128}
use Rattle.postcard_schema.specs.Leaves.{size_of, is_signed}
use Rattle.postcard_schema.specs.Meaning.{integer_reads, varint_reads}
use Rattle.postcard_compat.specs.Said.{Saying, integer_said}
use Rattle.postcard_compat.specs.Serving.{SetServes, Serves}
use Rattle.postcard_compat.specs.Parts.{integer_leaf}

-- An encoding of a number in a narrower width is one in a wider.
wider : (v w n : ℕ) (p : List ℕ) → v ≤ w → SpellsNum v n p → SpellsNum w n p
wider v w n p more k = record { digits = k.digits; count = omega (arith, k.count, more); value = k.value }

-- A power of 2 is at most that of an exponent greater by `k`.
pow_up : (v k : ℕ) → 2 ^ v ≤ 2 ^ (v + k)
pow_up v zero = let e : v + 0 ≡ v = omega arith in rw e (omega arith)
pow_up v (suc k) =
    let e : v + suc k ≡ suc (v + k) = omega arith in
    let p : 2 ^ suc (v + k) ≡ 2 * 2 ^ (v + k) = pow-succ' 2 (v + k) in
    rw e (omega (arith, p, pow_up v k))

-- A power of 2 is at most that of any greater exponent.
pow_more : (v w : ℕ) → v ≤ w → 2 ^ v ≤ 2 ^ w
pow_more v w h = let e : v + (w - v) ≡ w = omega (arith, h) in subst (λ u. 2 ^ v ≤ 2 ^ u) e (pow_up v (w - v))

num_serves : (v w : ℕ) (f g : Saying) → v ≤ w → ((n : ℕ) → f (Num w n) ≡ g (Num v n)) → SetServes (IsNum w) f (IsNum v) g
num_serves v w f g more says t (n, e, low) =
    (Num w n, (n, refl, omega (arith, low, pow_more v w more)), says n ∙ sym (ap g e), λ p k. let l : Spells (Num v n) p = rw e at k in wider v w n p more l)

int_serves : (v w : ℕ) (f g : Saying) → IsWidth v → IsWidth w → v ≤ w → ((z : ℤ) → f (Int w z) ≡ g (Int v z)) → SetServes (IsInt w) f (IsInt v) g
int_serves v w f g wide_v wide_w more says t (z, e, range) = (
  Int w z,
  (z, refl, in_range w z wide_w (omega (arith, zig_below v z wide_v range, pow_more v w more))),
  says z ∙ sym (ap g e),
  λ p k. let l : Spells (Int v z) p = rw e at k in wider v w (zigzag z) p more l,
)

varint_serves : (signed : Bool) (v w : ℕ) (f g : Saying) → IsWidth v → IsWidth w → v ≤ w
    → ((n : ℕ) → f (Num w n) ≡ g (Num v n)) → ((z : ℤ) → f (Int w z) ≡ g (Int v z)) → SetServes (varint_reads signed w) f (varint_reads signed v) g
varint_serves false v w f g wide_v wide_w more nums ints = num_serves v w f g more nums
varint_serves true v w f g wide_v wide_w more nums ints = int_serves v w f g wide_v wide_w more ints

-- ---- The types of integers

width : (i : Integer) → 1 < size_of i → IsWidth (8 * size_of i)
width U8 big = absurd (omega (arith, big))
width U16 big = inl refl
width U32 big = inr (inl refl)
width U64 big = inr (inr (inl refl))
width U128 big = inr (inr (inr refl))
width I8 big = absurd (omega (arith, big))
width I16 big = inl refl
width I32 big = inr (inl refl)
width I64 big = inr (inr (inl refl))
width I128 big = inr (inr (inr refl))

varints : (i : Integer) → 1 < size_of i → integer_reads i ≡ varint_reads (is_signed i) (8 * size_of i)
varints U8 big = absurd (omega (arith, big))
varints U16 big = refl
varints U32 big = refl
varints U64 big = refl
varints U128 big = refl
varints I8 big = absurd (omega (arith, big))
varints I16 big = refl
varints I32 big = refl
varints I64 big = refl
varints I128 big = refl

pub same_signs : (a b : Bool) → beq a b ≡ true → a ≡ b
same_signs true true e = refl
same_signs true false e = absurd (true≢false (sym e))
same_signs false true e = absurd (true≢false (sym e))
same_signs false false e = refl

-- A wider type of the same sign serves a type of varints.
pub wider_serves : (o n : Integer) → 1 < size_of o → size_of o ≤ size_of n → is_signed o ≡ is_signed n → Serves (integer_leaf n) (integer_leaf o)
wider_serves o n big more same =
    let signed = is_signed n in
    let big_n : 1 < size_of n = omega (arith, big, more) in
    let h = varint_serves signed (8 * size_of o) (8 * size_of n) (integer_said n) (integer_said o) (width o big) (width n big_n) (omega (arith, more)) (λ k. refl) (λ z. refl) in
    let reads_o : integer_reads o ≡ varint_reads signed (8 * size_of o) = varints o big ∙ ap (λ b. varint_reads b (8 * size_of o)) same in
    subst (λ (P : Tree → Type 0). SetServes P (integer_said n) (integer_reads o) (integer_said o)) (sym (varints n big_n))
    (subst (λ (Q : Tree → Type 0). SetServes (varint_reads signed (8 * size_of n)) (integer_said n) Q (integer_said o)) (sym reads_o) h)
