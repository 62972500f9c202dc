-- The count is written, and then the entries, whose keys are distinct.
use Rattle.std.proofs.Common.{arith}
use Rattle.std.proofs.lemmas.Result.{on_ok_weaker}
use Rattle.postcard_shape.proofs.Distinct.{pairs_itself}
use Rattle.postcard_shape.specs.Maps.{pair}
use Rattle.postcard_ser.proofs.Elements.{elements_count}
use Rattle.postcard_ser.proofs.PartByPart.{wrote_then, wrote_stop, wrote_err}
use Rattle.postcard_ser.proofs.values.hashes.HashMapSerialize.serialize.Goals as goal

pub returns-in_err-serialize_map-clause-wrote : goal.returns-in_err-serialize_map-clause-wrote
returns-in_err-serialize_map-clause-wrote g c =
    wrote_err _ c.from_residual.ensures.1
    (rw (elements_count (pair g.K.Shaped.shape g.V.Shaped.shape).tree c.args.self.now.entries)
    (wrote_stop _ _ (rw c.len.ensures.len at c.in_err-serialize_map.ensures.known) (λ e. absurd) absurd))

pub returns-clause-wrote : goal.returns-clause-wrote
returns-clause-wrote g c =
    rw (elements_count (pair g.K.Shaped.shape g.V.Shaped.shape).tree c.args.self.now.entries)
    (wrote_then _ _ (rw c.len.ensures.len at c.in_ok-serialize_map.ensures.known) c.serialize_pairs.ensures.wrote (λ e q. q) (λ t. t))

pub returns-clause-fits : goal.returns-clause-fits
returns-clause-fits g c =
    on_ok_weaker c.serialize_pairs.result (λ fit. ((omega (arith, c.len.ensures.len, c.len.ensures.small), fit), pairs_itself g.K.PartialEq.eq g.met.K.Eq.laws c.args.self.now.entries c.len.ensures.unique))
    c.serialize_pairs.ensures.fits
