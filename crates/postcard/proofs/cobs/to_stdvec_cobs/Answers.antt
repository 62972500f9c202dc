-- The clauses of `to_stdvec_cobs` are those of `to_allocvec_cobs`.
use Rattle.postcard.proofs.cobs.to_stdvec_cobs.Goals as goal

pub returns : goal.returns
returns g c = c.to_allocvec_cobs.ensures
