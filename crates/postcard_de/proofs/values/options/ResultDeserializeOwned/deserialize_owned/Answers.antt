use Rattle.std.proofs.Common.{inl, inr, ⊎_elim, rules}
use Rattle.postcard_de_nodes.specs.ReadLemmas.{is_refusal}
use Rattle.postcard_de.proofs.Enums.{variant_fails_as}
use Rattle.postcard_de.proofs.values.options.ResultDeserializeOwned.deserialize_owned.Goals as goal

pub returns-in_err-value : goal.returns-in_err-value
returns-in_err-value g c =
    record {
      reads = search rules;
      refused =
          rw (is_refusal c.from_residual.result c.in_err-value.field-0.0 c.from_residual.ensures.1)
          (⊎_elim (λ h. inl h) (λ h. inr (⊎_elim (λ k. inl (variant_fails_as k)) (λ k. inr (variant_fails_as k)) h))
          c.in_err-value.ensures.refused);
    }
