-- Lemmas on reading a link, from the reading of its parts.
use Rattle.std.proofs.Common.{◌≡◌, ℕ, zero, suc, List, Option, Ok, Result, IsErrAnd, refl, inl, inr}
use Rattle.postcard.specs.Lemmas.{Below, AllAre, NoneIs, refusal, content_refused, no_room}
use Rattle.postcard.specs.Lemmas.{struct_fails, struct_read, variant_read, with_memory, only_memory}
use Rattle.postcard_wire.specs.declared.error.Error.{Error}
use Rattle.postcard_wire.specs.declared.error.Error.TheVariants.{OutOfMemory}
use Rattle.postcard_wire.specs.Number.{SpellsNum}
use Rattle.postcard_wire.specs.Tree.{Tree, Trees, Num}
use Rattle.postcard_wire.specs.Spelling.{Spells, SpellsAll}
use Rattle.postcard_wire.specs.Reading.{IsEnd, IsThen, IsGroup, IsNum}
use Rattle.postcard_shape.specs.Shape.{never, either, memory}
use Rattle.postcard_shape.specs.Cases.{case_reads}
use Rattle.postcard_shape.specs.Leaves.{Same}
use Rattle.postcard_shape.specs.declared.cases.Case.TheVariants.{This, Next}
use Rattle.postcard_de_flavors.specs.Source.{Left, Laws}
use Rattle.postcard_de.specs.Reads.{ReadsFrom}
use Rattle.example_types.specs.declared.chain.Chain.{Chain}
use Rattle.example_types.specs.Links.{chain_shape, chain_cases}

-- The parts of a link: a number, and a chain of fewer than m links.
abbrev pub LinkReads : ℕ → Trees → Type 0
LinkReads m = IsThen (IsNum 16) (IsThen (chain_shape m).reads IsEnd)

-- The parts are those of the number n and the chain w.
abbrev pub LinkIs : ℕ → ℕ → Chain → Trees → Type 0
LinkIs m n w = IsThen (λ t. t ≡ Num 16 n) (IsThen (λ t. (chain_shape m).value t w) IsEnd)

-- The errors of reading these parts, beside those of their nodes.
abbrev pub LinkErrors : ℕ → Error → Type 0
LinkErrors m = either never (either (chain_shape m).other never)

-- The errors of the variants of a chain. The first variant has no parts, and the second has these.
abbrev pub VariantErrors : ℕ → Error → Type 0
VariantErrors m = either never (either (LinkErrors m) never)

-- The errors of reading the parts are among those of a chain of one link more.
of_link : (m : ℕ) (e : Error) → LinkErrors m e → (chain_shape (suc m)).other e
of_link m e h = with_memory (VariantErrors m) e (inr (inl h))

module _ {S : Type 0} {left : S → Left} {able : S → ℕ → Type 0}
    {may_leave : S → S → Type 0} (laws : Laws left able may_leave) {old mid new : S}
    (d m : ℕ) (deeper : d ≡ suc m) where
  -- If the index 1 was read and the parts after it are refused, the link is refused.
  pub link_refused : {i : ℕ} {r : Result Chain Error} {e : Error} →
      i ≡ 1 → IsErrAnd r (λ x. x ≡ e) →
      ReadsFrom (SpellsNum 32) (Below 32) Same never left able may_leave old (Ok i) mid →
      ReadsFrom SpellsAll (LinkReads m) NoneIs (LinkErrors m) left able may_leave mid (refusal (Unit {0}) e) new →
      ReadsFrom Spells (chain_shape d).reads (chain_shape d).value (chain_shape d).other
      left able may_leave old r new
  link_refused {e = e} one h s parts = rw deeper (content_refused laws (of_link m) h (rw one at s)
      (struct_fails laws {A = Unit {0}} {value = λ t v. ⊥} {r = refusal (Unit {0}) e} refl parts))

  -- If the index 1 was read and the parts after it were read, the link of these parts was read.
  pub link_read : {i n : ℕ} {v w : Chain} → i ≡ 1 → chain_cases v ≡ Next (This (n, (w, tt))) →
      ReadsFrom (SpellsNum 32) (Below 32) Same never left able may_leave old (Ok i) mid →
      ReadsFrom SpellsAll (LinkReads m) (AllAre (LinkIs m n w)) (LinkErrors m) left able may_leave
      mid (Ok tt) new →
      ReadsFrom Spells (chain_shape d).reads (chain_shape d).value (chain_shape d).other
      left able may_leave old (Ok v) new
  link_read {n = n} {w = w} one seen s parts =
      rw deeper (variant_read laws (λ t h. (1, t, refl, rw seen h)) (rw one at s)
      (struct_read laws {A = Unit {0}} {value = λ t u. IsGroup (LinkIs m n w) t} {K = LinkIs m n w}
      {a = tt} (λ t h. h) parts))

  -- If an allocation for the link fails, reading it fails with `OutOfMemory`.
  pub link_too_big : {i n : ℕ} (w : Chain) → i ≡ 1 →
      ReadsFrom (SpellsNum 32) (Below 32) Same never left able may_leave old (Ok i) mid →
      ReadsFrom SpellsAll (LinkReads m) (AllAre (LinkIs m n w)) (LinkErrors m) left able may_leave
      mid (Ok tt) new →
      ReadsFrom Spells (chain_shape d).reads (chain_shape d).value (chain_shape d).other
      left able may_leave old (refusal Chain OutOfMemory) new
  link_too_big w one s parts = rw deeper (content_refused laws (only_memory (VariantErrors m)) refl (rw one at s)
      (no_room {W = Unit {0}} {R' = IsGroup (LinkReads m)} {I' = λ t v. ⊥} {H = memory} tt
      (struct_read laws {A = Unit {0}} {value = λ t u. Unit {0}} {a = tt} (λ t h. tt) parts)))

-- Only the indices 0 and 1 have trees.
pub no_other : (Q R : Tree → Type 0) (i : ℕ) → (i ≡ 0 → ⊥) → (i ≡ 1 → ⊥) → (t : Tree) →
    case_reads Q (case_reads R (λ j u. ⊥)) i t → ⊥
no_other Q R zero a b t r = a refl
no_other Q R (suc zero) a b t r = b refl
no_other Q R (suc (suc i)) a b t r = r
