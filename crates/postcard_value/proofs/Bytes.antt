-- If `has_bytes` is true of a type, each of its messages has at least one byte.
use Rattle.std.proofs.Common.{◌≡◌, ℕ, zero, suc, ◌<◌, inl, inr, Bool, true, false, List, [], ◌∷◌, ◌++◌, length, refl, ap, ◌∙◌, arith, length-append}
use Rattle.std.specs.Prelude.{nat_lt, if◌then◌else◌}
use Rattle.postcard_wire.specs.Number.{AreDigits, SpellsNum}
use Rattle.postcard_wire.specs.Tree.{Tree, Trees, NoTrees, Then, count}
use Rattle.postcard_wire.specs.Reading.{IsByte, IsArray, Each}
use Rattle.postcard_schema.specs.declared.leaf.Float.{Float}
use Rattle.postcard_schema.specs.declared.leaf.Float.TheVariants.{F32, F64}
use Rattle.postcard_schema.specs.declared.leaf.Leaf.{Leaf}
use Rattle.postcard_schema.specs.declared.leaf.Leaf.TheVariants as leaves
use Rattle.postcard_schema.specs.Meaning.{MessageType, MessageTypes, leaf, option, seq, array, group, choice, no_types, then_type, leaf_reads, reads, reads_all, has_bytes, some_has_bytes}
use Rattle.postcard_schema.specs.Lemmas.{size_some}
use Rattle.postcard_value.specs.{Spells, SpellsAll, float_size, size_of}
use Rattle.postcard_value.specs.TypeLaws.{by_integer}

-- The digits of a varint are at least one byte.
digits_some : (p : List ℕ) → AreDigits p → 0 < length p
digits_some [] d = absurd d
digits_some (b ∷ bs) d = omega arith

-- A number has at least one byte.
num_some : (w n : ℕ) (p : List ℕ) → SpellsNum w n p → 0 < length p
num_some w n p s = digits_some p s.digits

-- A list of one byte isn't empty.
one_some : (p : List ℕ) (b : ℕ) → p ≡ b ∷ [] → 0 < length p
one_some p b e = let l = ap length e in omega arith

-- A tree with a part that has a byte has a byte.
front_some : (p x y : List ℕ) → p ≡ x ++ y → 0 < length x → 0 < length p
front_some p x y e l = let n = ap length e ∙ length-append x y in omega arith

-- A list that ends with a filled list isn't empty.
back_some : (p x y : List ℕ) → p ≡ x ++ y → 0 < length y → 0 < length p
back_some p x y e l = let n = ap length e ∙ length-append x y in omega arith

-- The encodings of the trees have bytes.
abbrev HasBytes : (Tree → Type 0) → Type 0
HasBytes R = (s : Tree) (p : List ℕ) → R s → Spells s p → 0 < length p

-- Some elements that have bytes have bytes together.
elements_some : (R : Tree → Type 0) → HasBytes R → (ts : Trees) (p : List ℕ)
    → 0 < count ts → Each R ts → SpellsAll ts p → 0 < length p
elements_some R one NoTrees p n r q = absurd (omega arith)
elements_some R one (Then s ss) p n r q = front_some p q.0 q.1 q.4 (one s q.0 r.0 q.2)

-- A float has bytes, and so has a number at its full width.
array_some : (k : ℕ) → 0 < k → HasBytes (IsArray k IsByte)
array_some k some s p r q = elements_some IsByte (λ t u b l. one_some u _ (rw b.1 at l)) r.0 p (rw r.2 some) r.3 (rw r.1 at q)

-- A float has bytes.
float_some : (f : Float) → 0 < float_size f
float_some F32 = omega arith
float_some F64 = omega arith

-- A value of a type without parts has bytes.
leaf_some : (l : Leaf) (s : Tree) (p : List ℕ) → leaf_reads l s → Spells s p → 0 < length p
leaf_some leaves.Bool s p r q = one_some p _ (rw r.1 at q)
leaf_some (leaves.Integer i) s p r q =
    by_integer HasBytes (λ t u b l. one_some u _ (rw b.1 at l)) (λ w wide t u b l. num_some w _ u (rw b.1 at l)) (λ w wide t u b l. num_some w _ u
    (rw b.1 at l)) i s p r q
leaf_some (leaves.Float f) s p r q = array_some (float_size f) (float_some f) s p r q
leaf_some leaves.Char s p r q = let k = rw r.1 at q in front_some p k.2.0 k.2.1 k.2.4 (num_some 64 _ k.2.0 k.2.2)
leaf_some leaves.Str s p r q = let k = rw r.1 at q in front_some p k.0 k.1 k.4 (num_some 64 _ k.0 k.2)
leaf_some leaves.Bytes s p r q = let k = rw r.1 at q in front_some p k.0 k.1 k.4 (num_some 64 _ k.0 k.2)
leaf_some (leaves.Fixed order i) s p r q = array_some (size_of i) (size_some i) s p r q

-- If two conditions hold, the second does.
both : (a b : Bool) → (if a then b else false) ≡ true → b ≡ true
both true b h = h
both false b h = cc

-- An array has bytes if it has elements and they have bytes.
array_has : (n : ℕ) (t : MessageType) → has_bytes (array n t) ≡ true → (0 < n) × (has_bytes t ≡ true)
array_has zero t h = cc
array_has (suc n) t h = (omega arith, both (nat_lt 0 (suc n)) (has_bytes t) h)

-- If one of the types has bytes, the first does, or one of those after it.
first_or_rest : (t : MessageType) (ts : MessageTypes) (b : Bool) → has_bytes t ≡ b → some_has_bytes (then_type t ts) ≡ true
    → (n : ℕ) → (has_bytes t ≡ true → 0 < n) → (some_has_bytes ts ≡ true → 0 < n) → 0 < n
first_or_rest t ts true e h n first rest = first e
first_or_rest t ts false e h n first rest = rest (rw e at h)

mutual
  pub type_some : (t : MessageType) → has_bytes t ≡ true → (s : Tree) (p : List ℕ) → reads t s → Spells s p → 0 < length p
  type_some (leaf l) h s p r q = leaf_some l s p r q
  type_some (option t) h s p (inl e) q = one_some p 0 (rw e at q)
  type_some (option t) h s p (inr r) q = let k = rw r.1 at q in front_some p k.0 k.1 k.4 (one_some k.0 1 k.2)
  type_some (seq t) h s p r q = let k = rw r.1 at q in front_some p k.0 k.1 k.4 (num_some 64 _ k.0 k.2)
  type_some (array n t) h s p r q =
      let a = array_has n t h in elements_some (reads t) (type_some t a.1) r.0 p (rw r.2 a.0) r.3 (rw r.1 at q)
  type_some (group ts) h s p r q = types_some ts h r.0 p r.2 (rw r.1 at q)
  type_some (choice ts) h s p r q = let k = rw r.2 at q in front_some p k.0 k.1 k.4 (num_some 32 _ k.0 k.2)

  types_some : (ts : MessageTypes) → some_has_bytes ts ≡ true → (ss : Trees) (p : List ℕ) → reads_all ts ss → SpellsAll ss p → 0 < length p
  types_some no_types h ss p r q = cc
  types_some (then_type t ts) h ss p r q =
      let k = rw r.2 at q in
      first_or_rest t ts (has_bytes t) refl h (length p)
      (λ e. front_some p k.0 k.1 k.4 (type_some t e r.0 k.0 r.3 k.2))
      (λ e. back_some p k.0 k.1 k.4 (types_some ts e r.1 k.1 r.4 k.3))
