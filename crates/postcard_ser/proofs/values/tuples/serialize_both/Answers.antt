-- The first value is written, and then the other.
use Rattle.std.proofs.Common.{inl, inr, rules}
use Rattle.std.proofs.lemmas.Result.{on_ok_weaker}
use Rattle.postcard_ser.proofs.PartByPart.{wrote_then, wrote_stop, wrote_err, wrote_end}
use Rattle.postcard_ser.proofs.values.tuples.serialize_both.Goals as goal

pub returns-in_err-serialize : goal.returns-in_err-serialize
returns-in_err-serialize g c = record {
  wrote = wrote_err _ c.from_residual.ensures.1 (wrote_stop _ _ c.in_err-serialize.ensures.wrote (λ e. inl) inl);
  fits = search rules;
}

pub returns : goal.returns
returns g c = record {
  wrote = wrote_then _ _ c.in_ok-serialize.ensures.wrote (wrote_end c.serialize-2.ensures.wrote) (λ e. inr) inr;
  fits = on_ok_weaker c.serialize-2.result (λ last. (c.in_ok-serialize.ensures.fits, (last, tt))) c.serialize-2.ensures.fits;
}
