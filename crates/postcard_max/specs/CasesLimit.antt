-- The size limit of an enum holds if those of its variants' contents do (wire format 1.0,
-- "newtype_variant").
use Rattle.std.specs.Prelude.{ℕ, Option, Some}
use Rattle.postcard_wire.specs.Tree.{Tree}
use Rattle.postcard_wire.specs.Reading.{IsVariant}
use Rattle.postcard_shape.specs.Cases.{case_of, case_reads}
use Rattle.postcard_shape.specs.declared.cases.Case.{Case}
use Rattle.postcard_max.specs.Sizes.{sum_of}
use Rattle.postcard_max.specs.SizeLimit.{SizeLimit, no_case_limit, case_limit, variants_limit}
use Rattle.postcard_max.specs.Limits.{IsLimit}
use Rattle.postcard_max.specs.Willing.{never_any, Never, case_never}
use Rattle.postcard_max.specs.Cases.{CasesBounded, CasesReached, zero_index, no_case_bounded, no_case_reached, case_bounded, case_reached, variants_bounded, variants_reached}
use Rattle.postcard_wire.specs.declared.error.Error.{Error}
use Rattle.postcard_shape.specs.Shape.{never}

-- A limit holds of variants whose first has the index i.
pub record IsCasesLimit {V : Type 0} (limit : Option ℕ → SizeLimit) (reads : ℕ → Tree → Type 0) (refusal : V → Error → Type 0) (i : Option ℕ) : Type 0 where
  -- No canonical encoding of a variant whose content is read is longer than the greatest size.
  pub bounded : CasesBounded i (limit i).greatest reads
  -- If `reached` holds, the encoding of some variant whose content is read has this size.
  pub is_reached : (limit i).reached → CasesReached i (limit i).greatest reads
  -- If `willing` holds, no content refuses itself.
  pub never_refuses : (limit i).willing → Never refusal

-- The limit of no variants holds.
pub no_case_lawful : {V : Type 0} (i : Option ℕ) → IsCasesLimit no_case_limit (λ j t. ⊥) (λ (v : V). never) i
no_case_lawful i = record { bounded = no_case_bounded i; is_reached = λ _. no_case_reached i; never_refuses = λ _. never_any }

-- The limit of a variant and the variants after it holds if those of both do.
pub case_lawful : {A R : Type 0} {l : SizeLimit} {m : Option ℕ → SizeLimit} {s : Tree → Type 0} {r : ℕ → Tree → Type 0} {f : A → Error → Type 0} {g : R → Error → Type 0} → IsLimit l s f → ((i : Option ℕ) → IsCasesLimit m r g i)
    → (i : Option ℕ) → IsCasesLimit (case_limit l m) (case_reads s r) (λ (v : Case A R). case_of f g v) i
case_lawful {l = l} {m = m} {s = s} {r = r} {f = f} {g = g} h k i = record {
  bounded = case_bounded l.greatest (λ j. (m j).greatest) s r h.bounded (λ j. (k j).bounded) i;
  is_reached = λ w. case_reached l.greatest (λ j. (m j).greatest) s r i w.0 (h.is_reached w.1) ((k (sum_of i (Some 1))).is_reached w.2);
  never_refuses = λ w. case_never f g (h.never_refuses w.0) ((k (sum_of i (Some 1))).never_refuses w.1);
}

-- The limit of an enum holds if those of its variants' contents do.
pub variants_lawful : {A R : Type 0} {l : SizeLimit} {m : Option ℕ → SizeLimit} {s : Tree → Type 0} {r : ℕ → Tree → Type 0} {f : A → Error → Type 0} {g : R → Error → Type 0} → IsLimit l s f → ((i : Option ℕ) → IsCasesLimit m r g i)
    → IsLimit (variants_limit l m) (IsVariant (case_reads s r)) (λ (v : Case A R). case_of f g v)
variants_lawful {l = l} {m = m} {s = s} {r = r} h k =
    let c = case_lawful h k (Some 0) in
    record {
      bounded = variants_bounded _ (case_reads s r) c.bounded;
      is_reached = λ w. variants_reached l.greatest (λ j. (m j).greatest) (case_reads s r) (c.is_reached (zero_index, w.0, w.1));
      never_refuses = c.never_refuses;
    }
