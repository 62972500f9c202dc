-- The first value is written, and then the others.
use Rattle.std.proofs.Common.{inl, inr, rules}
use Rattle.std.proofs.lemmas.Result.{on_ok_weaker}
use Rattle.postcard_ser.proofs.PartByPart.{wrote_then, wrote_stop, wrote_err}
use Rattle.postcard_ser.proofs.values.tuples.serialize_nine.Goals as goal

pub returns-in_err-serialize : goal.returns-in_err-serialize
returns-in_err-serialize g c = record {
  wrote = wrote_err _ c.from_residual.ensures.1 (wrote_stop _ _ c.in_err-serialize.ensures.wrote (λ e. inl) inl);
  fits = search rules;
}

pub returns : goal.returns
returns g c = record {
  wrote = wrote_then _ _ c.in_ok-serialize.ensures.wrote c.serialize_eight.ensures.wrote (λ e. inr) inr;
  fits = on_ok_weaker c.serialize_eight.result (λ others. (c.in_ok-serialize.ensures.fits, others)) c.serialize_eight.ensures.fits;
}
