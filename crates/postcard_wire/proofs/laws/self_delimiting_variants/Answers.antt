-- The law is a lemma of `Delimited`, at the sets that the type names.
use Rattle.postcard_wire.proofs.Delimited.{variant_delimited}
use Rattle.postcard_wire.proofs.laws.self_delimiting_variants.Goals as goal

pub returns : goal.returns
returns g c = variant_delimited g.C.ContentSet.holds
