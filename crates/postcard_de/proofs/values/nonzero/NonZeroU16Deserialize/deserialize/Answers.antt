use Rattle.std.proofs.Common.{inl}
use Rattle.postcard_de.proofs.Zeros.{fewer_fail, zero_number}
use Rattle.postcard_de.proofs.values.nonzero.NonZeroU16Deserialize.deserialize.Goals as goal

pub returns-in_err-number : goal.returns-in_err-number
returns-in_err-number g c =
    fewer_fail (λ t r. r.0) (λ p b. inl b) c.from_residual.ensures.1 c.in_err-number.ensures

pub returns-in-None : goal.returns-in-None
returns-in-None g c = zero_number 16 c.in-None.ensures c.in_ok-number.ensures
