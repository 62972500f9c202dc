-- The first eight parts are written, and then the others.
use Rattle.std.proofs.Common.{inl, inr}
use Rattle.std.proofs.lemmas.Result.{on_ok_weaker}
use Rattle.postcard_ser.proofs.PartByPart.{wrote_then, wrote_stop, wrote_err, wrote_end}
use Rattle.postcard_ser.proofs.values.long_tuples.Tuple13SerializeRepr.serialize_repr.Goals as goal

pub returns-in_err-serialize_eight-clause-wrote : goal.returns-in_err-serialize_eight-clause-wrote
returns-in_err-serialize_eight-clause-wrote g c = wrote_err _ c.from_residual.ensures.1 (wrote_stop _ _ c.in_err-serialize_eight.ensures.wrote (λ e. inl) inl)

pub returns-clause-wrote : goal.returns-clause-wrote
returns-clause-wrote g c = wrote_then _ _ c.in_ok-serialize_eight.ensures.wrote (wrote_end c.serialize_five.ensures.wrote) (λ e. inr) inr

pub returns-clause-fits : goal.returns-clause-fits
returns-clause-fits g c = on_ok_weaker c.serialize_five.result (λ others. (c.in_ok-serialize_eight.ensures.fits, (others, tt))) c.serialize_five.ensures.fits
