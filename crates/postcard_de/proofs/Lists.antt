-- Reading the elements of a list one by one.
use Rattle.std.proofs.Common.{◌≡◌, ℕ, zero, suc, ◌+◌, ◌-◌, List, [], ◌∷◌, ◌++◌, length, Option, None}
use Rattle.std.proofs.Common.{Ok, Err, Result, refl, ap, arith, append_assoc}
use Rattle.std.proofs.Common.{append-nil, sym, ◌∙◌}
use Rattle.std.specs.Option.{IfNone}
use Rattle.postcard_wire.specs.declared.error.Error.{Error}
use Rattle.postcard_wire.specs.declared.error.Error.TheVariants.{OutOfMemory}
use Rattle.postcard_wire.specs.Tree.{Tree, Trees, NoTrees, Then}
use Rattle.postcard_wire.specs.Spelling.{Spells, SpellsAll}
use Rattle.postcard_de_flavors.specs.Source.{Left, CanTake, Takes, Laws}
use Rattle.postcard_de_nodes.specs.Reads.{ReadsFrom}
use Rattle.postcard_shape.specs.Lists.{EachIs, AreRead}
use Rattle.postcard_de_nodes.specs.TakeLemmas.{nothing_taken}
use Rattle.postcard_de_nodes.specs.ReadLemmas.{refusal, out_of_memory}
use Rattle.postcard_de_nodes.specs.CompoundLemmas.{Compound, first_refused, second_refused}
use Rattle.postcard_de_nodes.specs.CompoundLemmas.{both_read}

-- The values us, read before, in front of those that the result has, or its error.
abbrev pub prefixed : {V : Type 0} → List V → Result (List V) Error → Result (List V) Error
prefixed us (Ok vs) = Ok (us ++ vs)
prefixed us (Err e) = Err e

-- Trees in a row are made of one and the rest.
pub one_and_rest : {V : Type 0} (R : Tree → Type 0) (I : Tree → V → Type 0) (n : ℕ) →
    Compound Then Spells R I SpellsAll (λ v ts. AreRead n R ts) SpellsAll (AreRead (suc n) R)
one_and_rest {V} R I n = record {
  joined = λ t ts v p q r i s a b. ((ap suc s.0, (r, s.1)), (p, q, a, b, refl));
  parted = parted;
}
  where
    parted : (z : Trees) (r : List ℕ) → AreRead (suc n) R z → SpellsAll z r →
        (x : Tree) × (y : Trees) × (p : List ℕ) × (q : List ℕ) × (Then x y ≡ z) × R x × Spells x p
        × SpellsAll y q × (r ≡ p ++ q) × ((v : V) → I x v → AreRead n R y)
    parted NoTrees r a s = absurd (omega (arith, a.0))
    parted (Then t ts) r a (p, q, s, k, e) =
        (t, ts, p, q, refl, a.1.0, s, k, e, λ v i. (omega (arith, a.0), a.1.1))

-- The trees of two rows, in one row.
pub joined_rows : Trees → Trees → Trees
joined_rows NoTrees ss = ss
joined_rows (Then t ts) ss = Then t (joined_rows ts ss)

-- A row of two is read and spelled as the two are.
join_rows : (R : Tree → Type 0) (n m : ℕ) (ts ss : Trees) (p q : List ℕ) → AreRead n R ts → AreRead m R ss →
    SpellsAll ts p → SpellsAll ss q → AreRead (n + m) R (joined_rows ts ss) × SpellsAll (joined_rows ts ss) (p ++ q)
unfolding joined_rows
join_rows R n m NoTrees ss p q a b s t =
    ((omega (arith, a.0, b.0), b.1), rw s t)
join_rows R n m (Then u ts) ss p q a b (x, y, c, d, e) t =
    let less : n ≡ suc (n - 1) = omega (arith, a.0) in
    let k = join_rows R (n - 1) m ts ss y q (omega (arith, a.0), a.1.1) b d t in
    ((omega (arith, less, k.0.0), (a.1.0, k.0.1)), (x, y ++ q, c, k.1, ap (λ (z : List ℕ). z ++ q) e ∙ append_assoc x y q))

-- A row of n + m is one of n, and one of m.
part_rows : (R : Tree → Type 0) (n m : ℕ) (z : Trees) (r : List ℕ) → AreRead (n + m) R z → SpellsAll z r →
    (ts : Trees) × (ss : Trees) × (p : List ℕ) × (q : List ℕ) × (joined_rows ts ss ≡ z) × AreRead n R ts × SpellsAll ts p
    × SpellsAll ss q × (r ≡ p ++ q) × AreRead m R ss
unfolding joined_rows
part_rows R zero m z r a s = (NoTrees, z, [], r, refl, (refl, tt), refl, s, refl, (omega (arith, a.0), a.1))
part_rows R (suc n) m NoTrees r a s = absurd (omega (arith, a.0))
part_rows R (suc n) m (Then t ts) r a (x, y, c, d, e) =
    let k = part_rows R n m ts y (omega (arith, a.0), a.1.1) d in (
      Then t k.0,
      k.1,
      x ++ k.2,
      k.3,
      ap (λ (w : Trees). Then t w) k.4,
      (ap suc k.5.0, (a.1.0, k.5.1)),
      (x, k.2, c, k.6, refl),
      k.7,
      e ∙ (ap (λ (w : List ℕ). x ++ w) k.8 ∙ sym (append_assoc x k.2 k.3)),
      k.9,
    )

-- The values of two rows, in one list.
join_values : {V : Type 0} (I : Tree → V → Type 0) (ts ss : Trees) (vs ws : List V) → EachIs I ts vs → EachIs I ss ws →
    EachIs I (joined_rows ts ss) (vs ++ ws)
unfolding joined_rows
join_values I NoTrees ss [] ws a b = b
join_values I NoTrees ss (v ∷ vs) ws a b = absurd a
join_values I (Then t ts) ss [] ws a b = absurd a
join_values I (Then t ts) ss (v ∷ vs) ws a b = (a.0, join_values I ts ss vs ws a.1 b)

-- Trees in a row are made of some and the rest.
pub some_and_rest : {V : Type 0} (R : Tree → Type 0) (I : Tree → V → Type 0) (n m : ℕ) →
    Compound joined_rows SpellsAll (AreRead n R) (EachIs I) SpellsAll (λ (vs : List V) ts. AreRead m R ts) SpellsAll (AreRead (n + m) R)
some_and_rest {V} R I n m = record {
  joined = λ ts ss vs p q a i b s t. join_rows R n m ts ss p q a b s t;
  parted = λ z r a s.
      let k = part_rows R n m z r a s in
      (k.0, k.1, k.2, k.3, k.4, k.5, k.6, k.7, k.8, λ vs i. k.9);
}

-- The state within a list: however reading the elements left ends, reading all ends likewise, with
-- the elements read so far in front.
pub record Going {S V : Type 0} (left : S → Left) (able : S → ℕ → Type 0)
    (may_leave : S → S → Type 0) (R : Tree → Type 0) (I : Tree → V → Type 0) (H : Error → Type 0)
    (start : S) (all : ℕ) (items : List V) (now : S) (rest : ℕ) : Type 0 where
  pub ends : (r : Result (List V) Error) (new : S) →
      ReadsFrom SpellsAll (AreRead rest R) (EachIs I) H left able may_leave now r new →
      ReadsFrom SpellsAll (AreRead all R) (EachIs I) H left able may_leave start (prefixed items r)
      new

module _ {S V : Type 0} {left : S → Left} {able : S → ℕ → Type 0}
    {may_leave : S → S → Type 0} (laws : Laws left able may_leave) {R : Tree → Type 0}
    {I : Tree → V → Type 0} {H : Error → Type 0} where
  -- It holds before any element was read.
  pub going : {start : S} {all : ℕ} → Going left able may_leave R I H start all [] start all
  going {start} {all} = record { ends = ends }
    where
      ends : (r : Result (List V) Error) (new : S) →
          ReadsFrom SpellsAll (AreRead all R) (EachIs I) H left able may_leave start r new →
          ReadsFrom SpellsAll (AreRead all R) (EachIs I) H left able may_leave start (prefixed [] r)
          new
      ends (Ok vs) new h = h
      ends (Err e) new h = h

  -- It holds of the same elements and the same state.
  pub going_same : {start now now' : S} {all rest : ℕ} {items items' : List V} →
      (items' ≡ items) × (now' ≡ now) → Going left able may_leave R I H start all items now rest →
      Going left able may_leave R I H start all items' now' rest
  going_same e h = rw (e.0, e.1) h

  -- It holds after one more element was read.
  pub goes_on : {G : Error → Type 0} {start now mid : S} {all rest : ℕ} {items : List V} {v : V} →
      ((e : Error) → G e → H e) →
      Going left able may_leave R I H start all items now (suc rest) →
      ReadsFrom Spells R I G left able may_leave now (Ok v) mid →
      Going left able may_leave R I H start all (items ++ v ∷ []) mid rest
  goes_on {start = start} {mid = mid} {all = all} {rest = rest} {items = items} {v = v} grow so h =
      record { ends = ends }
    where
      ends : (r : Result (List V) Error) (new : S) →
          ReadsFrom SpellsAll (AreRead rest R) (EachIs I) H left able may_leave mid r new →
          ReadsFrom SpellsAll (AreRead all R) (EachIs I) H left able may_leave start
          (prefixed (items ++ v ∷ []) r) new
      ends (Ok vs) new k = rw (append_assoc items (v ∷ []) vs)
          (so.ends (Ok (v ∷ vs)) new (both_read laws (one_and_rest R I rest) (λ t ts i j. (i, j)) h
          k))
      ends (Err e) new k =
          so.ends (Err e) new (second_refused laws (one_and_rest R I rest) (λ x g. g) h k)

  -- It holds after some more elements were read.
  pub goes_on_by : {start now mid : S} {all rest : ℕ} {items vs : List V} →
      Going left able may_leave R I H start all items now (length vs + rest) →
      ReadsFrom SpellsAll (AreRead (length vs) R) (EachIs I) H left able may_leave now (Ok vs) mid →
      Going left able may_leave R I H start all (items ++ vs) mid rest
  goes_on_by {start = start} {mid = mid} {all = all} {rest = rest} {items = items} {vs = vs} so h =
      record { ends = ends }
    where
      ends : (r : Result (List V) Error) (new : S) →
          ReadsFrom SpellsAll (AreRead rest R) (EachIs I) H left able may_leave mid r new →
          ReadsFrom SpellsAll (AreRead all R) (EachIs I) H left able may_leave start
          (prefixed (items ++ vs) r) new
      ends (Ok ws) new k = rw (append_assoc items vs ws)
          (so.ends (Ok (vs ++ ws)) new (both_read laws (some_and_rest R I (length vs) rest)
          (λ ts ss i j. join_values I ts ss vs ws i j) h k))
      ends (Err e) new k =
          so.ends (Err e) new (second_refused laws (some_and_rest R I (length vs) rest) (λ x g. g) h k)

  -- If reading the next element fails, reading all fails with that error.
  pub going_stops : {G : Error → Type 0} {W : Type 0} {I' : Tree → W → Type 0} {start now new : S} {all rest : ℕ}
      {items : List V} {e : Error} → ((e : Error) → G e → H e) →
      Going left able may_leave R I H start all items now (suc rest) →
      ReadsFrom Spells R I' G left able may_leave now (refusal W e) new →
      ReadsFrom SpellsAll (AreRead all R) (EachIs I) H left able may_leave start
      (refusal (List V) e) new
  going_stops {I' = I'} {new = new} {rest = rest} {e = e} grow so h =
      so.ends (Err e) new (first_refused laws (one_and_rest R I' rest) grow h)

  -- If memory ran out, reading all fails with `OutOfMemory`.
  pub going_full : {start now new : S} {all rest : ℕ} {items : List V} → H OutOfMemory →
      Going left able may_leave R I H start all items now (suc rest) → may_leave now new →
      ReadsFrom SpellsAll (AreRead all R) (EachIs I) H left able may_leave start
      (refusal (List V) OutOfMemory) new
  going_full {new = new} h so l = so.ends (Err OutOfMemory) new (out_of_memory l h)

  -- If no element is left, all were read.
  pub going_done : {start now : S} {all : ℕ} {items : List V} →
      Going left able may_leave R I H start all items now 0 →
      ReadsFrom SpellsAll (AreRead all R) (EachIs I) H left able may_leave start (Ok items) now
  going_done {now = now} so = rw append-nil at (so.ends (Ok []) now (record {
    gives = record {
      thing = NoTrees;
      front = [];
      is_read = (refl, tt);
      is_spelled = refl;
      has = tt;
      taken = nothing_taken now;
    };
    accepts = accepts;
    leaves = laws.itself now;
    named_error = tt;
  }))
    where
      accepts : (ts : Trees) (p : List ℕ) → AreRead 0 R ts → SpellsAll ts p →
          CanTake left able now p → EachIs I ts [] × Takes left able now p now
      accepts NoTrees p a s c = (tt, rw s (nothing_taken now))
      accepts (Then t ts) p a s c = absurd (omega (arith, a.0))

-- A number that isn't 0 is the successor of its predecessor.
pub one_more_left : (n : ℕ) → (n ≡ 0 → ⊥) → n ≡ suc (n - 1)
one_more_left zero h = absurd (h refl)
one_more_left (suc n) h = omega arith

-- What holds if an option is `None` holds of an option that is.
pub at_none : {V P : Type 0} {o : Option V} → o ≡ None → IfNone o P → P
at_none e h = rw e at h
