-- The count is written, and then the elements.
use Rattle.std.proofs.Common.{arith}
use Rattle.std.proofs.lemmas.Result.{on_ok_weaker}
use Rattle.postcard_ser.proofs.Elements.{elements_count}
use Rattle.postcard_ser.proofs.PartByPart.{wrote_then, wrote_stop, wrote_err}
use Rattle.postcard_ser.proofs.values.lists.LinkedListSerialize.serialize.Goals as goal

pub returns-in_err-serialize_seq-clause-wrote : goal.returns-in_err-serialize_seq-clause-wrote
returns-in_err-serialize_seq-clause-wrote g c =
    wrote_err _ c.from_residual.ensures.1
    (rw (elements_count g.T.Shaped.shape.tree c.args.self.now)
    (wrote_stop _ _ (rw c.len-count.ensures.value at c.in_err-serialize_seq.ensures.known) (λ e. absurd) absurd))

pub returns-clause-wrote : goal.returns-clause-wrote
returns-clause-wrote g c =
    rw (elements_count g.T.Shaped.shape.tree c.args.self.now)
    (wrote_then _ _ (rw c.len-count.ensures.value at c.in_ok-serialize_seq.ensures.known) c.serialize_linked.ensures.wrote (λ e q. q) (λ t. t))

pub returns-clause-fits : goal.returns-clause-fits
returns-clause-fits g c =
    on_ok_weaker c.serialize_linked.result (λ fit. (omega (arith, c.len-count.ensures.value, c.len-count.ensures.fits), fit))
    c.serialize_linked.ensures.fits
