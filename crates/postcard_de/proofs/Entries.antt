-- Reading a pair of a map, and lists of few elements.
use Rattle.std.proofs.Common.{◌≡◌, ℕ, ◌≤◌, inl, inr, List, [], ◌∷◌, ◌++◌, Option, Ok, refl, sym, ◌∙◌}
use Rattle.std.proofs.Common.{subst}
use Rattle.std.specs.declared.cmp.Ordering.{Ordering}
use Rattle.std.specs.BTreeMap.{insert_entry}
use Rattle.std.specs.BTreeSet.{insert_key}
use Rattle.postcard_wire.specs.declared.error.Error.{Error}
use Rattle.postcard_wire.specs.Number.{SpellsNum}
use Rattle.postcard_wire.specs.Tree.{Tree, Seq, count}
use Rattle.postcard_wire.specs.Spelling.{Spells, SpellsAll}
use Rattle.postcard_de_flavors.specs.Source.{Left, Laws}
use Rattle.postcard_de_nodes.specs.Reads.{IsReadError, ReadsFrom}
use Rattle.postcard_shape.specs.Shape.{never, either, or_memory}
use Rattle.postcard_shape.specs.Leaves.{Same}
use Rattle.postcard_shape.specs.Lists.{EachIs, ListIs, AreRead, IsFewSeq}
use Rattle.postcard_shape.specs.Maps.{IsEntry, EntryIs, inserted, keys_inserted}
use Rattle.postcard_de_nodes.specs.ErrorLemmas.{with_memory}
use Rattle.postcard_de_nodes.specs.ReadLemmas.{refusal}
use Rattle.postcard_de_nodes.specs.NumberLemmas.{Below}
use Rattle.postcard_de_nodes.specs.CompoundLemmas.{Compound, first_refused, second_refused}
use Rattle.postcard_de_nodes.specs.CompoundLemmas.{both_read}
use Rattle.postcard_de_nodes.specs.SeenLemmas.{none_follows}
use Rattle.postcard_de.proofs.Parts.{struct_read, and_part, no_more, struct_fails, stops, and_fails}

-- Inserting pairs and one more at their end is inserting the pairs and then that one.
pub inserted_last : {A B : Type 0} (cmp : A → A → Ordering) (ps es : List (A × B)) (a : A) (b : B) →
    inserted cmp (ps ++ ((a, b) ∷ [])) es ≡ insert_entry cmp (inserted cmp ps es) a b
inserted_last cmp [] es a b = refl
inserted_last cmp (p ∷ ps) es a b = inserted_last cmp ps (insert_entry cmp es p.0 p.1) a b

-- Inserting keys and one more at their end is inserting the keys and then that one.
pub keys_inserted_last : {A : Type 0} (cmp : A → A → Ordering) (xs ks : List A) (a : A) →
    keys_inserted cmp (xs ++ (a ∷ [])) ks ≡ insert_key cmp (keys_inserted cmp xs ks) a
keys_inserted_last cmp [] ks a = refl
keys_inserted_last cmp (x ∷ xs) ks a = keys_inserted_last cmp xs (insert_key cmp ks x) a

-- A list of at most m elements is made of a count of at most m and that many trees.
pub count_and_few : (m : ℕ) (R : Tree → Type 0) →
    Compound (λ (n : ℕ) ts. Seq ts) (SpellsNum 64) (Below 64) Same SpellsAll
    (λ n ts. AreRead n R ts × (n ≤ m)) Spells (IsFewSeq m R)
count_and_few m R = record {
  joined = λ n ts v p q low same s a b.
      let e : n ≡ count ts = same ∙ sym s.0.0 in (
        (ts, refl, subst (λ (k : ℕ). k ≤ m) (sym s.0.0) s.1, subst (Below 64) e low, s.0.1),
        (p, q, subst (λ (k : ℕ). SpellsNum 64 k p) e a, b, refl),
      );
  parted = λ z r a s. let t : Spells (Seq a.0) r = rw a.1 at s in (
    count a.0,
    a.0,
    t.0,
    t.1,
    sym a.1,
    a.3,
    t.2,
    t.3,
    t.4,
    λ v same.
        ((same, a.4), subst (λ (k : ℕ). k ≤ m) same a.2),
  );
}

-- The errors of a pair are among those of a map of such pairs.
pub of_pair : (G H : Error → Type 0) (e : Error) → either G (either H never) e →
    or_memory (either G H) e
of_pair G H e (inl a) = with_memory (either G H) e (inl a)
of_pair G H e (inr (inl a)) = with_memory (either G H) e (inr a)
of_pair G H e (inr (inr a)) = absurd a

module _ {S : Type 0} {left : S → Left} {able : S → ℕ → Type 0}
    {may_leave : S → S → Type 0} (laws : Laws left able may_leave) where
  -- If reading a pair's key fails, reading the pair fails with that error.
  pub key_refused : {A B : Type 0} {K V : Tree → Type 0} {I : Tree → A → Type 0}
      {G H : Error → Type 0} {value : Tree → A × B → Type 0} {old new : S} {e : Error} →
      ReadsFrom Spells K I G left able may_leave old (refusal A e) new →
      ReadsFrom Spells (IsEntry K V) value (either G (either H never)) left able may_leave old (refusal (A × B) e)
      new
  key_refused r = struct_fails laws refl (stops laws r)

  module _ {A B : Type 0} {K V : Tree → Type 0} {I : Tree → A → Type 0} {J : Tree → B → Type 0}
      {G H : Error → Type 0} where
    -- If the key was read and reading the value fails, reading the pair fails with that error.
    pub value_refused : {old mid new : S} {a : A} {e : Error} →
        ReadsFrom Spells K I G left able may_leave old (Ok a) mid →
        ReadsFrom Spells V J H left able may_leave mid (refusal B e) new →
        ReadsFrom Spells (IsEntry K V) (EntryIs I J) (either G (either H never)) left able may_leave old
        (refusal (A × B) e) new
    value_refused r s = struct_fails laws refl (and_fails laws r (stops laws s))

    -- If both were read, the pair was read.
    pub entry_read : {old mid new : S} {a : A} {b : B} →
        ReadsFrom Spells K I G left able may_leave old (Ok a) mid →
        ReadsFrom Spells V J H left able may_leave mid (Ok b) new →
        ReadsFrom Spells (IsEntry K V) (EntryIs I J) (either G (either H never)) left able may_leave old
        (Ok (a, b)) new
    entry_read r s = struct_read laws (λ t h. h) (and_part laws r (and_part laws s (no_more laws)))

  module _ {V : Type 0} {R : Tree → Type 0} {I : Tree → V → Type 0} {H : Error → Type 0} where
    module _ {A : Type 0} {see : A → List V} {m n : ℕ} {old mid new : S}
        (counted : ReadsFrom (SpellsNum 64) (Below 64) Same never left able may_leave old (Ok n) mid)
      where
        -- If a count of at most m and that many elements were read, the list was read.
        pub few_read : {a : A} → n ≤ m → ReadsFrom SpellsAll (AreRead n R) (EachIs I) H left able
            may_leave mid (Ok (see a)) new → ReadsFrom Spells (IsFewSeq m R)
            (λ t x. ListIs I t (see x)) H left able may_leave old (Ok a) new
        few_read few k =
            both_read laws (count_and_few m R) (λ j ts same h. (ts, refl, h)) counted
            (allowed few k)
          where
            allowed : {a : A} → n ≤ m → ReadsFrom SpellsAll (AreRead n R) (EachIs I) H left able
                may_leave mid (Ok (see a)) new →
                ReadsFrom SpellsAll (λ ts. AreRead n R ts × (n ≤ m)) (EachIs I) H left able
                may_leave mid (Ok (see a)) new
            allowed few k = let g = k.gives in
                record {
                  gives = record {
                    thing = g.thing;
                    front = g.front;
                    is_read = (g.is_read, few);
                    is_spelled = g.is_spelled;
                    has = g.has;
                    taken = g.taken;
                  };
                  accepts = λ x p a b c. k.accepts x p a.0 b c;
                  leaves = k.leaves;
                  named_error = k.named_error;
                }

        -- If the count was read and reading the elements fails, reading the list fails with that
        -- error.
        pub few_refused : {e : Error} → ReadsFrom SpellsAll (AreRead n R) (EachIs I) H left able
            may_leave mid (refusal (List V) e) new →
            ReadsFrom Spells (IsFewSeq m R) (λ t x. ListIs I t (see x)) H left able may_leave old
            (refusal A e) new
        few_refused {e} k = second_refused laws (count_and_few m R) (λ x g. g) counted fewer
          where
            fewer : ReadsFrom SpellsAll (λ ts. AreRead n R ts × (n ≤ m)) (EachIs I) H left able
                may_leave mid (refusal (List V) e) new
            fewer = record {
              gives = tt;
              accepts = λ x p a b c. k.accepts x p a.0 b c;
              leaves = k.leaves;
              named_error = k.named_error;
            }

        -- If a count above m was read and then some elements, reading the list may fail.
        pub too_many : {e : Error} → IsReadError H e → (n ≤ m → ⊥) → may_leave mid new →
            ReadsFrom Spells (IsFewSeq m R) (λ t x. ListIs I t (see x)) H left able may_leave old
            (refusal A e) new
        too_many named many l =
            none_follows laws (count_and_few m R) named (λ ts a. many a.1) l counted

  -- If reading the count fails, reading the list fails with that error.
  pub few_count_refused : {A : Type 0} {K : Tree → A → Type 0} {R : Tree → Type 0}
      {H : Error → Type 0} {m : ℕ} {old new : S} {e : Error} → ReadsFrom (SpellsNum 64) (Below 64) Same never left able
      may_leave old (refusal ℕ e) new → ReadsFrom Spells (IsFewSeq m R) K H left able may_leave old
      (refusal A e) new
  few_count_refused {R = R} {m = m} r = first_refused laws (count_and_few m R) (λ x z. absurd z) r
