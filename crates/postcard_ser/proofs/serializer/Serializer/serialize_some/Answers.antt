-- The byte 1 is written, and then the value.
use Rattle.std.proofs.Common.{[], ◌∷◌}
use Rattle.postcard_ser.proofs.PartByPart.{wrote_then, wrote_stop, wrote_err}
use Rattle.postcard_ser.proofs.serializer.Serializer.serialize_some.Goals as goal

pub returns-in_err-serialize_u8-clause-wrote : goal.returns-in_err-serialize_u8-clause-wrote
returns-in_err-serialize_u8-clause-wrote g c = wrote_err _ c.from_residual.ensures.1 (wrote_stop (1 ∷ []) _ c.in_err-serialize_u8.ensures (λ e. absurd) absurd)

pub returns-clause-wrote : goal.returns-clause-wrote
returns-clause-wrote g c = wrote_then (1 ∷ []) _ c.in_ok-serialize_u8.ensures c.serialize.ensures.wrote (λ e q. q) (λ t. t)
