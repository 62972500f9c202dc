use Rattle.postcard_de.proofs.Zeros.{fewer_fail, zero_byte}
use Rattle.postcard_de.proofs.values.nonzero.NonZeroU8Deserialize.deserialize.Goals as goal

pub returns-in_err-number : goal.returns-in_err-number
returns-in_err-number g c =
    fewer_fail (λ t r. r.0) (λ p b. absurd b) c.from_residual.ensures.1 c.in_err-number.ensures

pub returns-in-None : goal.returns-in-None
returns-in-None g c = zero_byte c.in-None.ensures c.in_ok-number.ensures
