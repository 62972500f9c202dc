-- Lemmas on values that are read after one node: a count, the first byte of an option, the bytes of a number, an integer.
use Rattle.std.proofs.Common.{◌≡◌, ℕ, suc, ◌<◌, length, List, [], ◌∷◌, map, Ok, Result, IsErrAnd, refl, sym, ◌∙◌, ap, subst, arith, inl, inr, ◌-◌, ◌*◌, ◌%◌, ◌^◌, ℤ, pos, negsuc, mod-eq_of_lt}
use Rattle.std.specs.Prelude.{Vec}
use Rattle.std.specs.declared.alloc.Global.{Global}
use Rattle.postcard_wire.specs.declared.error.Error.{Error}
use Rattle.postcard_wire.specs.declared.error.Error.TheVariants.{OutOfMemory}
use Rattle.postcard_wire.specs.Number.{SpellsNum, InRange}
use Rattle.postcard_wire.specs.Tree.{Tree, Trees, Byte, Num, Group, NoTrees, Then, trees, count, Int}
use Rattle.postcard_wire.specs.Tree as nodes
use Rattle.postcard_wire.specs.Reading.{IsByte, IsNum, IsOption, IsArray, Each, IsInt}
use Rattle.postcard_de_flavors.specs.Source.{Left, CanTake, Takes, Laws}
use Rattle.postcard_shape.specs.Base256.{AreBytes}
use Rattle.postcard_shape.specs.Leaves.{Same, byte_same, num_same, int_same}
use Rattle.postcard_shape.specs.Lists.{EachIs}
use Rattle.postcard_shape.specs.Shape.{never, memory}
use Rattle.postcard_de_nodes.specs.ErrorLemmas.{wider}
use Rattle.postcard_de_nodes.specs.NumberLemmas.{Below}
use Rattle.postcard_de_nodes.specs.ReadLemmas.{refusal, is_refusal, out_of_memory}
use Rattle.postcard_de_nodes.specs.Reads.{ReadsFrom}
use Rattle.postcard_de_nodes.specs.SeenLemmas.{recast, refused_too, seen_as}
use Rattle.postcard_de_nodes.specs.TakeLemmas.{can_first}
use Rattle.postcard_schema.specs.declared.leaf.ByteOrder.{ByteOrder}
use Rattle.std.specs.Int.{Width, cast_signed, cast_unsigned}
use Rattle.std.proofs.lemmas.Int.{ints, to_z-of_z}
use mir.Val.{bits, hbits, SFits}
use Rattle.postcard_fixint.specs.Fixed.{twos_complement}
use Rattle.postcard_schema.specs.declared.leaf.Integer.{Integer}
use Rattle.postcard_value.specs.{AreTrees, IsFixed, IsTree, Spells, SpellsAll, Value, fixed_tree, order_of, unsigned, size_of}
use Rattle.postcard_value.proofs.Rows.{each_tree}
use Rattle.postcard_value.specs.Numbers.{IsInteger, integer_tree, signed_of}
use Rattle.postcard_value.specs.NumberLemmas.{number_of_bits}

-- ---- bytes of a number

group_same : (ts us : Trees) → Group ts ≡ Group us → ts ≡ us
group_same ts us e = cc

-- Trees of bytes that are those of a list: the list has that many elements, each a byte.
array_bytes : (ts : Trees) (bs : List ℕ) → Each IsByte ts → EachIs (λ s b. s ≡ Byte b) ts bs → AreBytes bs × (length bs ≡ count ts)
array_bytes NoTrees [] r h = (tt, refl)
array_bytes NoTrees (b ∷ bs) r h = absurd h
array_bytes (Then t ts) [] r h = absurd h
array_bytes (Then t ts) (b ∷ bs) r h =
    let k = array_bytes ts bs r.1 h.1 in
    let same : r.0.0 ≡ b = byte_same r.0.0 b (sym r.0.1 ∙ h.0) in
    ((subst (λ n. n < 256) same r.0.2, k.0), ap suc k.1)

-- The tree of the k bytes of a number is that of the bits.
pub fixed_are : (order : ByteOrder) (k n : ℕ) (t : Tree) → IsArray k IsByte t → IsFixed (order_of order) (unsigned k) t n → t ≡ fixed_tree order k n
fixed_are order k n t (ts, is, many, r) (bs, (us, was, h), worth, fits) =
    let o = order_of order in
    let same : ts ≡ us = group_same ts us (sym is ∙ was) in
    let k' = array_bytes us bs (subst (Each IsByte) same r) h in
    let long : length bs ≡ length (o.spell k n) = k'.1 ∙ ap count (sym same) ∙ many ∙ sym (o.counts k n) in
    let bytes : bs ≡ o.spell k n = o.one bs (o.spell k n) long k'.0 (o.bytes k n) (worth ∙ sym (o.worth k n fits)) in
    was ∙ ap Group (each_tree Byte us bs h ∙ ap (λ (xs : List ℕ). trees (map Byte xs)) bytes)

module _ {S : Type 0} {left : S → Left} {able : S → ℕ → Type 0} {may_leave : S → S → Type 0} where
  -- ---- a count

  -- Reading a number of 64 bits reads a count.
  pub as_count : {old new : S} {n : ℕ} → ReadsFrom Spells (IsNum 64) (λ t v. t ≡ Num 64 v) never left able may_leave old (Ok n) new
      → ReadsFrom (SpellsNum 64) (Below 64) Same never left able may_leave old (Ok n) new
  as_count {n = n} r = let g = r.gives in record {
    gives = record { thing = g.is_read.0; front = g.front; is_read = g.is_read.2; is_spelled = rw g.is_read.1 at g.is_spelled; has = num_same 64 g.is_read.0 n (sym g.is_read.1 ∙ g.has); taken = g.taken };
    accepts = λ m p a b c. let k = r.accepts (Num 64 m) p (m, refl, a) b c in (num_same 64 m n k.0, k.1);
    leaves = r.leaves;
    named_error = tt;
  }

  -- If reading a number of 64 bits fails, reading a count fails.
  pub no_count : {W : Type 0} {I : Tree → W → Type 0} {old new : S} {e : Error}
      → ReadsFrom Spells (IsNum 64) I never left able may_leave old (refusal W e) new
      → ReadsFrom (SpellsNum 64) (Below 64) Same never left able may_leave old (refusal ℕ e) new
  no_count r = record {
    gives = tt;
    accepts = λ m p a b c. r.accepts (Num 64 m) p (m, refl, a) b c;
    leaves = r.leaves;
    named_error = r.named_error;
  }

  -- ---- values in a vector

  -- Elements that are read into a vector are read as its list.
  pub as_list : {P : Trees → Type 0} {old new : S} {v : Vec Value Global} →
      ReadsFrom SpellsAll P AreTrees memory left able may_leave old (Ok v) new
      → ReadsFrom SpellsAll P (EachIs IsTree) memory left able may_leave old (Ok v.items) new
  as_list r = recast (λ x h. h) r

  -- If elements are refused for a vector, they are refused as a list.
  pub no_list : {P : Trees → Type 0} {old new : S} {e : Error} →
      ReadsFrom SpellsAll P AreTrees memory left able may_leave old (refusal (Vec Value Global) e) new
      → ReadsFrom SpellsAll P (EachIs IsTree) memory left able may_leave old (refusal (List Value) e) new
  no_list r = refused_too (λ x a. a) (λ x h. h) r

  -- If memory runs out, reading fails with the error that `?` passes on.
  pub no_memory : {X V : Type 0} {P : X → List ℕ → Type 0} {R : X → Type 0} {I : X → V → Type 0} {old new : S} {r : Result V Error} {e : Error} →
      IsErrAnd r (λ x. x ≡ e) → e ≡ OutOfMemory → may_leave old new → ReadsFrom P R I memory left able may_leave old r new
  no_memory {r = r} {e = e} h full l = rw (is_refusal r e h, full) (out_of_memory l tt)

  -- ---- the first byte of an option

  -- If a byte was read and is 1, the byte 1 was taken.
  pub one_taken : {old mid : S} {b : ℕ} → ReadsFrom Spells IsByte (λ t v. t ≡ Byte v) never left able may_leave old (Ok b) mid → b ≡ 1
      → Takes left able old (1 ∷ []) mid
  one_taken {old = old} {mid = mid} {b = b} r e =
      let g = r.gives in
      let s : Spells (Byte b) g.front = rw g.has at g.is_spelled in
      subst (λ (l : List ℕ). Takes left able old l mid) (s ∙ ap (λ (n : ℕ). n ∷ []) e) g.taken

module _ {S : Type 0} {left : S → Left} {able : S → ℕ → Type 0} {may_leave : S → S → Type 0} (laws : Laws left able may_leave) {old new : S} where
  -- If no byte can be read, no option can.
  pub no_option : {R : Tree → Type 0} {e : Error} → ReadsFrom Spells IsByte (λ t v. t ≡ Byte v) never left able may_leave old (refusal ℕ e) new
      → ReadsFrom Spells (IsOption R) IsTree memory left able may_leave old (refusal Value e) new
  no_option {R = R} {e = e} r = record {
    gives = tt;
    accepts = accepts;
    leaves = r.leaves;
    named_error = wider {H = memory} (λ x z. absurd z) e r.named_error;
  }
    where
      accepts : (x : Tree) (p : List ℕ) → IsOption R x → Spells x p → CanTake left able old p → e ≡ OutOfMemory
      accepts x p (inl a) s c = r.accepts (Byte 0) p (0, refl, omega arith) (rw a at s) c
      accepts x p (inr a) s c =
          let k : Spells (nodes.Present a.0) p = rw a.1 at s in
          r.accepts (Byte 1) k.0 (1, refl, omega arith) k.2 (can_first laws k.0 k.1 (rw k.4 at c))

-- ---- integers: the tree that was read is that of the bits returned

-- A signed number is one that its width holds, and its bits are its two's complement.
holds : (w : Width) → 2 ^ (bits w - 1) ≡ 2 ^ hbits w → (z : ℤ) → InRange (bits w) z → SFits w z
holds w half (pos n) r = record { sfits = omega (arith, ints, half, r.0, r.1) }
holds w half (negsuc n) r = record { sfits = omega (arith, ints, half, r.0, r.1) }

cast_is : (w : Width) (k : ℕ) → 2 ^ bits w ≡ 256 ^ k → (z : ℤ) → cast_unsigned w z ≡ twos_complement k z
cast_is w k same (pos n) = refl
cast_is w k same (negsuc n) = ap (λ m. m - suc n) same

-- Reading a node of each kind reads a number of the type, where the type's numbers are of that kind.
module _ {S : Type 0} {left : S → Left} {able : S → ℕ → Type 0} {may_leave : S → S → Type 0} {old new : S} (i : Integer) where
  pub num_read : (w : ℕ) {v : ℕ} → ((n : ℕ) → integer_tree i n ≡ Num w (n % 2 ^ w))
      → ReadsFrom Spells (IsNum w) (λ t n. t ≡ Num w n) never left able may_leave old (Ok v) new
      → ReadsFrom Spells (IsNum w) (IsInteger i) never left able may_leave old (Ok v) new
  num_read w {v} form r = seen_as (λ x a. a) (λ x a h.
      let low : v < 2 ^ w = subst (λ n. n < 2 ^ w) (num_same w a.0 v (sym a.1 ∙ h)) a.2 in
      (a, h ∙ ap (Num w) (sym (mod-eq_of_lt low)) ∙ sym (form v))) r

  -- A signed number is returned by its bits.
  pub int_read : (w : Width) {z : ℤ} {v : ℕ} → 8 * size_of i ≡ bits w → 2 ^ bits w ≡ 256 ^ size_of i → 2 ^ (bits w - 1) ≡ 2 ^ hbits w
      → ((n : ℕ) → integer_tree i n ≡ Int (bits w) (signed_of (size_of i) (n % 256 ^ size_of i)))
      → v ≡ cast_unsigned w (cast_signed w (cast_unsigned w z))
      → ReadsFrom Spells (IsInt (bits w)) (λ t n. t ≡ Int (bits w) n) never left able may_leave old (Ok z) new
      → ReadsFrom Spells (IsInt (bits w)) (IsInteger i) never left able may_leave old (Ok v) new
  int_read w {z} {v} width power half form is r = seen_as (λ x a. a) (λ x a h.
      let range : InRange (bits w) z = subst (InRange (bits w)) (int_same (bits w) a.0 z (sym a.1 ∙ h)) a.2 in
      let own : v ≡ twos_complement (size_of i) z = is ∙ ap (cast_unsigned w) (to_z-of_z w z (holds w half z range)) ∙ cast_is w (size_of i) power z in
      let same = number_of_bits i z v (subst (λ n. InRange n z) (sym width) range, own) in
      (a, h ∙ ap (Int (bits w)) (sym same) ∙ sym (form v))) r
