use Rattle.std.proofs.Common.{inl, inr, ⊎_elim, rules}
use Rattle.postcard_de_nodes.specs.ReadLemmas.{is_refusal}
use Rattle.postcard_de_nodes.specs.SeenLemmas.{recast}
use Rattle.postcard_de.proofs.Enums.{content_fails_as}
use Rattle.postcard_de.proofs.values.options.OptionDeserializeOwned.deserialize_owned.Goals as goal

pub returns-in_err-value : goal.returns-in_err-value
returns-in_err-value g c =
    record {
      reads = search rules;
      refused =
          rw (is_refusal c.from_residual.result c.in_err-value.field-0.0 c.from_residual.ensures.1)
          (⊎_elim (λ h. inl h) (λ h. inr (content_fails_as h)) c.in_err-value.ensures.refused);
    }

pub returns-in-Some : goal.returns-in-Some
returns-in-Some g c =
    record {
      reads = recast (λ t h. h) (rw c.in-Some.is at c.in_ok-value.ensures.reads);
      refused = tt;
    }
