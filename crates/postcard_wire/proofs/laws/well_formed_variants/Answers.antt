-- The law is a lemma of `WellFormed`, at the sets that the type names.
use Rattle.postcard_wire.proofs.WellFormed.{variant_well_formed}
use Rattle.postcard_wire.proofs.laws.well_formed_variants.Goals as goal

pub returns : goal.returns
returns g c = variant_well_formed g.C.ContentSet.holds
