-- The index is written, and then the value.
use Rattle.postcard_ser.proofs.PartByPart.{wrote_then}
use Rattle.postcard_ser.proofs.serializer.Serializer.serialize_newtype_variant.Goals as goal

pub returns-clause-wrote : goal.returns-clause-wrote
returns-clause-wrote g c = wrote_then _ _ c.in_ok-serialize_tuple_variant.ensures c.serialize.ensures.wrote (λ e q. q) (λ t. t)
