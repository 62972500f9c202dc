-- The count is written, and then the keys, which are distinct.
use Rattle.std.proofs.Common.{arith}
use Rattle.std.proofs.lemmas.Result.{on_ok_weaker}
use Rattle.postcard_shape.proofs.Distinct.{puts_itself}
use Rattle.postcard_ser.proofs.Elements.{elements_count}
use Rattle.postcard_ser.proofs.PartByPart.{wrote_then, wrote_stop, wrote_err}
use Rattle.postcard_ser.proofs.values.hashes.HashSetSerialize.serialize.Goals as goal

pub returns-in_err-serialize_seq-clause-wrote : goal.returns-in_err-serialize_seq-clause-wrote
returns-in_err-serialize_seq-clause-wrote g c =
    wrote_err _ c.from_residual.ensures.1
    (rw (elements_count g.K.Shaped.shape.tree c.args.self.now.keys)
    (wrote_stop _ _ (rw c.len.ensures.len at c.in_err-serialize_seq.ensures.known) (λ e. absurd) absurd))

pub returns-clause-wrote : goal.returns-clause-wrote
returns-clause-wrote g c =
    rw (elements_count g.K.Shaped.shape.tree c.args.self.now.keys)
    (wrote_then _ _ (rw c.len.ensures.len at c.in_ok-serialize_seq.ensures.known) c.serialize_keys.ensures.wrote (λ e q. q) (λ t. t))

pub returns-clause-fits : goal.returns-clause-fits
returns-clause-fits g c =
    on_ok_weaker c.serialize_keys.result (λ fit. ((omega (arith, c.len.ensures.len, c.len.ensures.small), fit), puts_itself g.K.PartialEq.eq g.met.K.Eq.laws c.args.self.now.keys c.len.ensures.unique))
    c.serialize_keys.ensures.fits
