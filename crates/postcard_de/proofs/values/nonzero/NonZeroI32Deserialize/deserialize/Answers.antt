use Rattle.std.proofs.Common.{◌≡◌, pos, arith, inl}
use Rattle.std.proofs.lemmas.Grind.{common_steps}
use Rattle.postcard_de.proofs.Zeros.{fewer_fail, zero_signed}
use Rattle.postcard_de.proofs.values.nonzero.NonZeroI32Deserialize.deserialize.Goals as goal

pub returns-in_err-number : goal.returns-in_err-number
returns-in_err-number g c =
    fewer_fail (λ t r. r.0) (λ p b. inl b) c.from_residual.ensures.1 c.in_err-number.ensures

pub returns-in-None : goal.returns-in-None
returns-in-None g c =
    let zero : c.in_ok-number.number ≡ pos 0 = grind (arith, common_steps) in
    zero_signed 32 zero c.in_ok-number.ensures
