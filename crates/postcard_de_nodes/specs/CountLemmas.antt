-- Reading a count and then that many trees, as one list.
use Rattle.std.proofs.Common.{◌≡◌, ℕ, List, Ok, refl, sym, ◌∙◌, subst}
use Rattle.postcard_wire.specs.declared.error.Error.{Error}
use Rattle.postcard_wire.specs.Number.{SpellsNum}
use Rattle.postcard_wire.specs.Tree.{Tree, Seq, count}
use Rattle.postcard_wire.specs.Spelling.{Spells, SpellsAll}
use Rattle.postcard_wire.specs.Reading.{IsSeq}
use Rattle.postcard_de_flavors.specs.Source.{Left, Laws}
use Rattle.postcard_shape.specs.Shape.{never}
use Rattle.postcard_shape.specs.Leaves.{Same}
use Rattle.postcard_shape.specs.Lists.{EachIs, ListIs, AreRead}
use Rattle.postcard_de_nodes.specs.Reads.{ReadsFrom}
use Rattle.postcard_de_nodes.specs.ErrorLemmas.{wider}
use Rattle.postcard_de_nodes.specs.TakeLemmas.{can_first}
use Rattle.postcard_de_nodes.specs.ReadLemmas.{refusal}
use Rattle.postcard_de_nodes.specs.NumberLemmas.{Below}
use Rattle.postcard_de_nodes.specs.CompoundLemmas.{Compound, second_refused, both_read}

-- A list is made of a count and that many trees.
pub count_and_parts : (R : Tree → Type 0) → Compound (λ (n : ℕ) ts. Seq ts) (SpellsNum 64)
    (Below 64) Same SpellsAll (λ n ts. AreRead n R ts) Spells (IsSeq R)
count_and_parts R = record {
  joined = λ n ts v p q low same s a b.
      let e : n ≡ count ts = same ∙ sym s.0 in (
        (ts, refl, subst (Below 64) e low, s.1),
        (
          p,
          q,
          subst (λ (m : ℕ). SpellsNum 64 m p) e a,
          b,
          refl,
        ),
      );
  parted = λ z r a s. let t : Spells (Seq a.0) r = rw a.1 at s in
      (count a.0, a.0, t.0, t.1, sym a.1, a.2, t.2, t.3, t.4, λ v same. (same, a.3));
}

module _ {S V : Type 0} {left : S → Left} {able : S → ℕ → Type 0}
    {may_leave : S → S → Type 0} (laws : Laws left able may_leave) {R : Tree → Type 0}
    {I : Tree → V → Type 0} {H : Error → Type 0} where
  -- If the count and then the elements were read, the list was read.
  pub list_read : {A : Type 0} (see : A → List V) {old mid new : S} {n : ℕ} (a : A) →
      ReadsFrom (SpellsNum 64) (Below 64) Same never left able may_leave old (Ok n) mid →
      ReadsFrom SpellsAll (AreRead n R) (EachIs I) H left able may_leave mid (Ok (see a)) new →
      ReadsFrom Spells (IsSeq R) (λ t x. ListIs I t (see x)) H left able may_leave old (Ok a) new
  list_read see a h k = both_read laws (count_and_parts R) (λ n ts i j. (ts, refl, j)) h k

  -- If the count was read and reading the elements fails, reading the list fails with that error.
  pub list_refused : {A : Type 0} (see : A → List V) {old mid new : S} {n : ℕ} {e : Error} →
      ReadsFrom (SpellsNum 64) (Below 64) Same never left able may_leave old (Ok n) mid →
      ReadsFrom SpellsAll (AreRead n R) (EachIs I) H left able may_leave mid
      (refusal (List V) e) new →
      ReadsFrom Spells (IsSeq R) (λ t x. ListIs I t (see x)) H left able may_leave old (refusal A e)
      new
  list_refused see h k = second_refused laws (count_and_parts R) (λ e g. g) h k

module _ {S : Type 0} {left : S → Left} {able : S → ℕ → Type 0}
    {may_leave : S → S → Type 0} (laws : Laws left able may_leave) {R : Tree → Type 0} {H : Error → Type 0}
  where
    -- If reading the count fails, reading the list fails with its error.
    pub count_refused : {A W : Type 0} {value : ℕ → W → Type 0} {K : Tree → A → Type 0}
        {old new : S} {e : Error} →
        ReadsFrom (SpellsNum 64) (Below 64) value never left able may_leave old (refusal W e) new →
        ReadsFrom Spells (IsSeq R) K H left able may_leave old (refusal A e) new
    count_refused {e = e} r = record {
      gives = tt;
      accepts = λ t p a s c. let q : Spells (Seq a.0) p = rw a.1 at s in
          r.accepts (count a.0) q.0 a.2 q.2 (can_first laws q.0 q.1 (rw q.4 at c));
      leaves = r.leaves;
      named_error = wider {H = H} (λ x z. absurd z) e r.named_error;
    }
