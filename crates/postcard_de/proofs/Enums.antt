-- Reading an enum: its index, and then the content of the variant of that index.
use Rattle.std.proofs.Common.{◌≡◌, ℕ, zero, suc, ◌≤◌, inr, List, [], ◌∷◌, Option, Ok, Result, IsErrAnd, refl, sym}
use Rattle.std.proofs.Common.{subst}
use Rattle.postcard_wire.specs.declared.error.Error.{Error}
use Rattle.postcard_wire.specs.declared.error.Error.TheVariants.{SerdeDeCustom}
use Rattle.postcard_wire.specs.Number.{SpellsNum}
use Rattle.postcard_wire.specs.Tree.{Tree, Variant}
use Rattle.postcard_wire.specs.Spelling.{Spells}
use Rattle.postcard_wire.specs.Reading.{IsVariant}
use Rattle.postcard_de_flavors.specs.Source.{Left, Takes, Laws}
use Rattle.postcard_de_nodes.specs.Reads.{IsReadError, ReadsFrom}
use Rattle.postcard_shape.specs.Shape.{never}
use Rattle.postcard_shape.specs.Leaves.{Same}
use Rattle.postcard_shape.specs.Options.{ResultReads}
use Rattle.postcard_de_nodes.specs.ReadLemmas.{refusal, is_refusal}
use Rattle.postcard_de_nodes.specs.NumberLemmas.{Below, number_spelled, number_below}
use Rattle.postcard_de_nodes.specs.Refuses.{RefusesFrom, WantsDigit}
use Rattle.postcard_de_nodes.specs.Unfit.{BadIndex}
use Rattle.postcard_de_nodes.specs.SeenLemmas.{none_follows, refused_too}
use Rattle.postcard_de_nodes.specs.CompoundLemmas.{Compound, first_refused, second_refused}
use Rattle.postcard_de_nodes.specs.CompoundLemmas.{both_read}

-- A variant is made of an index and a content.
pub index_and_content : (content : ℕ → Tree → Type 0) →
    Compound Variant (SpellsNum 32) (Below 32) Same Spells content Spells (IsVariant content)
index_and_content content = record {
  joined = λ i s v p q low same c a b. (
    (
      i,
      s,
      refl,
      low,
      subst (λ (j : ℕ). content j s) (sym same)
          c,
    ),
    (p, q, a, b, refl),
  );
  parted = λ z r a s. let k : Spells (Variant a.0 a.1) r = rw a.2 at s in (
    a.0,
    a.1,
    k.0,
    k.1,
    sym a.2,
    a.3,
    k.2,
    k.3,
    k.4,
    λ v same. subst (λ (j : ℕ). content j a.1)
        same a.4,
  );
}

module _ {S : Type 0} {left : S → Left} {able : S → ℕ → Type 0}
    {may_leave : S → S → Type 0} (laws : Laws left able may_leave) {content : ℕ → Tree → Type 0}
    {A : Type 0} {value : Tree → A → Type 0} {H : Error → Type 0} where
  -- If reading the index fails, reading the enum fails with the error that `?` passes on.
  pub index_refused : {old new : S} {r : Result A Error} {e : Error} → IsErrAnd r (λ x. x ≡ e) →
      ReadsFrom (SpellsNum 32) (Below 32) Same never left able may_leave old (refusal ℕ e) new →
      ReadsFrom Spells (IsVariant content) value H left able may_leave old r new
  index_refused {r = r} {e = e} h s =
      rw (is_refusal r e h) (first_refused laws (index_and_content content) (λ x z. absurd z) s)

  -- If the index was read and reading its content fails, reading the enum fails with that error.
  pub content_refused : {V : Type 0} {J : Tree → V → Type 0} {G : Error → Type 0} {old mid new : S} {i : ℕ}
      {r : Result A Error} {e : Error} → ((e : Error) → G e → H e) → IsErrAnd r (λ x. x ≡ e) →
      ReadsFrom (SpellsNum 32) (Below 32) Same never left able may_leave old (Ok i) mid →
      ReadsFrom Spells (content i) J G left able may_leave mid (refusal V e) new →
      ReadsFrom Spells (IsVariant content) value H left able may_leave old r new
  content_refused {r = r} {e = e} grow h s t =
      rw (is_refusal r e h) (second_refused laws (index_and_content content) grow s t)

  -- If the index and its content were read, the enum was read.
  pub variant_read : {V : Type 0} {J : Tree → V → Type 0} {G : Error → Type 0} {old mid new : S} {i : ℕ}
      {v : V} {a : A} → ((t : Tree) → J t v → value (Variant i t) a) →
      ReadsFrom (SpellsNum 32) (Below 32) Same never left able may_leave old (Ok i) mid →
      ReadsFrom Spells (content i) J G left able may_leave mid (Ok v) new →
      ReadsFrom Spells (IsVariant content) value H left able may_leave old (Ok a) new
  variant_read {i = i} {a = a} has s t = both_read laws (index_and_content content)
      (λ j u same k. subst (λ (n : ℕ). value (Variant n u) a) (sym same) (has u k)) s t

  -- If the index was read and no variant has it, reading the enum may fail.
  pub unknown_index : {old new : S} {i : ℕ} {e : Error} → IsReadError H e →
      ((t : Tree) → content i t → ⊥) →
      ReadsFrom (SpellsNum 32) (Below 32) Same never left able may_leave old (Ok i) new →
      ReadsFrom Spells (IsVariant content) value H left able may_leave old (refusal A e) new
  unknown_index {new = new} named none s =
      none_follows laws (index_and_content content) named none (laws.itself new) s

module _ {S : Type 0} {left : S → Left} {able : S → ℕ → Type 0}
    {may_leave : S → S → Type 0} (laws : Laws left able may_leave) {old new : S} {i : ℕ} where
  -- If the index was read and its content can't be, that is why reading the enum fails.
  pub content_is_why : {V : Type 0} {R : Tree → Type 0} {J : Tree → V → Type 0}
      {G : Error → Type 0} {mid : S} {e : Error} →
      ReadsFrom (SpellsNum 32) (Below 32) Same never left able may_leave old (Ok i) mid →
      ReadsFrom Spells R J G left able may_leave mid (refusal V e) new →
      (p : List ℕ) × SpellsNum 32 i p × ((at : S) × Takes left able old p at
      × ReadsFrom Spells R J G left able may_leave at (refusal V e) new)
  content_is_why {mid = mid} s t =
      (s.gives.front, number_spelled laws s, (mid, s.gives.taken, t))

  -- If the index was read and isn't below n, that is why reading an enum of n variants fails.
  pub index_is_why : (n : ℕ) → n ≤ i →
      ReadsFrom (SpellsNum 32) (Below 32) Same never left able may_leave old (Ok i) new →
      RefusesFrom (WantsDigit 32) (BadIndex n) left able old SerdeDeCustom new
  index_is_why n many s = inr (record {
    front = s.gives.front;
    taken = s.gives.taken;
    why = inr (refl, (i, number_spelled laws s, number_below laws s, many));
  })

-- A failure to read a variant's content is one to read it as another value.
pub variant_fails_as : {S V W : Type 0} {left : S → Left} {able : S → ℕ → Type 0}
    {may_leave : S → S → Type 0} {R : Tree → Type 0} {I : Tree → V → Type 0} {J : Tree → W → Type 0}
    {G : Error → Type 0} {old new : S} {i : ℕ} {e : Error} →
    ((p : List ℕ) × SpellsNum 32 i p × ((at : S) × Takes left able old p at
    × ReadsFrom Spells R I G left able may_leave at (refusal V e) new)) →
    ((p : List ℕ) × SpellsNum 32 i p × ((at : S) × Takes left able old p at
    × ReadsFrom Spells R J G left able may_leave at (refusal W e) new))
variant_fails_as (p, spelled, (at, taken, r)) =
    (p, spelled, (at, taken, refused_too (λ x a. a) (λ x h. h) r))

-- A failure to read an option's content is one to read it as another value.
pub content_fails_as : {S V W : Type 0} {left : S → Left} {able : S → ℕ → Type 0}
    {may_leave : S → S → Type 0} {R : Tree → Type 0} {I : Tree → V → Type 0} {J : Tree → W → Type 0}
    {G : Error → Type 0} {old new : S} {e : Error} →
    ((at : S) × Takes left able old (1 ∷ []) at
    × ReadsFrom Spells R I G left able may_leave at (refusal V e) new) →
    ((at : S) × Takes left able old (1 ∷ []) at
    × ReadsFrom Spells R J G left able may_leave at (refusal W e) new)
content_fails_as (at, taken, r) = (at, taken, refused_too (λ x a. a) (λ x h. h) r)

-- A `Result` has no variant but those of index 0 and 1.
pub no_other : (R E : Tree → Type 0) (i : ℕ) → (i ≡ 0 → ⊥) → (i ≡ 1 → ⊥) → (t : Tree) →
    ResultReads R E i t → ⊥
no_other R E zero a b t r = a refl
no_other R E (suc zero) a b t r = b refl
no_other R E (suc (suc i)) a b t r = r
