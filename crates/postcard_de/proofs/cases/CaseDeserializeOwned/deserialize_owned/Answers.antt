use Rattle.std.proofs.Common.{refl}
use Rattle.postcard_de.proofs.Enums.{index_refused, content_refused, variant_read}
use Rattle.postcard_de.proofs.cases.CaseDeserializeOwned.deserialize_owned.Goals as goal

pub returns-in_err-index : goal.returns-in_err-index
returns-in_err-index g c =
    index_refused g.F.Flavor.lawful c.from_residual.ensures.1 c.in_err-index.ensures.reads

pub returns-in_err-value : goal.returns-in_err-value
returns-in_err-value g c = content_refused g.F.Flavor.lawful (λ e h. h)
    c.from_residual-in_err-value.ensures.1 c.in_ok-index.ensures.reads c.in_err-value.ensures

pub returns : goal.returns
returns g c = variant_read g.F.Flavor.lawful (λ t h. (c.in_ok-index.index, t, refl, h))
    c.in_ok-index.ensures.reads c.in_ok-value.ensures
