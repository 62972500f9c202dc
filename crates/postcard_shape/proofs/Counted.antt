-- Numbers that were read from bytes in memory, one and many.
use Rattle.std.proofs.Common.{◌≡◌, ℕ, suc, ◌+◌, ◌-◌, ◌*◌, ◌<◌, ◌≤◌, List, [], ◌∷◌, ◌++◌, length, take, drop, get_or}
use Rattle.std.proofs.Common.{refl, sym, ap, ◌∙◌, subst, arith, append_assoc, append-nil, length-append, length-drop}
use Rattle.std.proofs.Math.Nat.{suc-mul}
use Rattle.std.proofs.lemmas.List.{length-take-le, take-append-drop, take-append-le, take_all}
use Rattle.postcard_wire.specs.Tree.{Trees, Group, NoTrees, Then}
use Rattle.postcard_wire.specs.Spelling.{SpellsAll}
use Rattle.postcard_wire.specs.Reading.{Each}
use Rattle.postcard_shape.specs.Leaves.{byte}
use Rattle.postcard_shape.specs.Lists.{array, EachIs, AreValues, Appends}
use Rattle.postcard_shape.specs.Runs.{IsValue}
use Rattle.postcard_shape.specs.Shape.{Shape}
use Rattle.postcard_shape.proofs.Bytes.{bytes_trees, trees_are}

-- Bytes are the array that they encode.
pub array_value : (n : ℕ) (u : List ℕ) → length u ≡ n → ((k : ℕ) → get_or u k 0 < 256) → IsValue (array n byte) u u
array_value n u long small =
    let k = trees_are u small in
    (Group (bytes_trees u), (bytes_trees u, refl, k.0 ∙ long, k.1), k.2, (bytes_trees u, refl, k.3))

-- One value more.
value_more : {V : Type 0} (s : Shape V) (ts : Trees) (p q : List ℕ) (vs : List V) (v : V)
    → Each s.reads ts → SpellsAll ts p → EachIs s.value ts vs → IsValue s q v
    → AreValues s.reads s.value (p ++ q) (vs ++ v ∷ [])
value_more s NoTrees p q [] v r a i one =
    (Then one.0 NoTrees, (one.1, tt), (q, [], one.2, refl, ap (λ (z : List ℕ). z ++ q) a ∙ sym (append-nil q)), (one.3, tt))
value_more s NoTrees p q (w ∷ vs) v r a i one = absurd i
value_more s (Then t ts) p q [] v r a i one = absurd i
value_more s (Then t ts) p q (w ∷ vs) v r (x, y, a, b, e) i one =
    let k = value_more s ts y q vs v r.1 b i.1 one in
    (Then t k.0, (r.0, k.1), (x, y ++ q, a, k.2, ap (λ (z : List ℕ). z ++ q) e ∙ append_assoc x y q), (i.0, k.3))

-- Of the bytes `all`, a front was read as `count` numbers, which were appended to the list `old`, which is
-- now `new`, and `rest` is left.
pub record SoFar {V : Type 0} (s : Shape V) (old new : List V) (count : ℕ) (all rest : List ℕ) : Type 0 where
  pub values : List V
  pub front : List ℕ
  pub are : AreValues s.reads s.value front values
  pub many : length values ≡ count
  pub some : count ≤ length front
  pub grown : new ≡ old ++ values
  pub cut : all ≡ front ++ rest

-- At first no number was read.
pub none_read : {V : Type 0} (s : Shape V) (old new : List V) (all : List ℕ) → new ≡ old → SoFar s old new 0 all all
none_read s old new all e = record {
  values = [];
  front = [];
  are = (NoTrees, tt, refl, tt);
  many = refl;
  some = omega arith;
  grown = e ∙ sym (append-nil old);
  cut = refl;
}

-- One number more is read from the next k bytes.
pub one_read : {V : Type 0} (s : Shape V) (old now new : List V) (count k size : ℕ) (all rest after : List ℕ) (v : V)
    → SoFar s old now count all rest → k ≡ size → IsValue s (take size rest) v → new ≡ now ++ v ∷ [] → 0 < k → k ≤ length rest
    → after ≡ drop k rest → SoFar s old new (count + 1) all after
one_read {V} s old now new count k size all rest after v so is one e some enough left =
    let long = length-take-le k rest enough in
    let value : IsValue s (take k rest) v = subst (λ (n : ℕ). IsValue s (take n rest) v) (sym is) one in
    record {
      values = so.values ++ v ∷ [];
      front = so.front ++ take k rest;
      are = value_more s so.are.0 so.front (take k rest) so.values v so.are.1 so.are.2 so.are.3 value;
      many = omega (arith, length-append so.values (v ∷ []), so.many);
      some = omega (arith, length-append so.front (take k rest), long, so.some);
      grown = e ∙ ap (λ (z : List V). z ++ v ∷ []) so.grown ∙ append_assoc old so.values (v ∷ []);
      cut = so.cut ∙ ap (λ (z : List ℕ). so.front ++ z) (sym (take-append-drop k rest))
          ∙ sym (append_assoc so.front (take k rest) (drop k rest)) ∙ ap (λ (z : List ℕ). (so.front ++ take k rest) ++ z) (sym left);
    }

-- If some number was read, what was read and appended.
module _ {V : Type 0} (s : Shape V) (old new : List V) (count : ℕ) (all rest : List ℕ) (so : SoFar s old new count all rest)
    (some : 0 < count) where
  front_length : length all - length rest ≡ length so.front
  front_length = omega (arith, ap length so.cut, length-append so.front rest)

  front_taken : take (length all - length rest) all ≡ so.front
  front_taken =
      let n = length so.front in
      let within : n ≤ length so.front = omega arith in
      ap (λ (m : ℕ). take m all) front_length ∙ ap (λ (z : List ℕ). take n z) so.cut ∙ take-append-le n so.front rest within
      ∙ take_all n so.front within

  pub read_within : (0 < length all - length rest) × (length all - length rest ≤ length all)
  read_within = (omega (arith, front_length, so.some, some), omega arith)

  pub read_appends : (most : ℕ) → count ≤ most → Appends s.reads s.value most (take (length all - length rest) all) old new
  read_appends most few = (
    so.values,
    subst (λ (z : List ℕ). AreValues s.reads s.value z so.values) (sym front_taken) so.are,
    omega (arith, so.many, some),
    omega (arith, so.many, few),
    so.grown,
  )

-- If the bytes of the i-th of c numbers and of those after it are left, so are those of one.
pub one_left : (c i k : ℕ) (rest : List ℕ) → i < c → (c - i) * k ≤ length rest → k ≤ length rest
one_left c i k rest few all =
    let more : c - i ≡ suc (c - (i + 1)) = omega arith in
    let whole = subst (λ (m : ℕ). m * k ≤ length rest) more all in
    omega (arith, suc-mul (c - (i + 1)) k, whole)

-- And after it those of the others.
pub others_left : (c i k : ℕ) (rest after : List ℕ) → i < c → (c - i) * k ≤ length rest → after ≡ drop k rest
    → (c - (i + 1)) * k ≤ length after
others_left c i k rest after few all left =
    let more : c - i ≡ suc (c - (i + 1)) = omega arith in
    let whole = subst (λ (m : ℕ). m * k ≤ length rest) more all in
    omega (arith, suc-mul (c - (i + 1)) k, whole, ap (λ (z : List ℕ). length z) left, length-drop k rest)
