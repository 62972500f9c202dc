-- The count is written, and then the bytes.
use Rattle.postcard_ser.proofs.PartByPart.{wrote_then}
use Rattle.postcard_ser.proofs.serializer.Serializer.extend_counted.Goals as goal

pub returns : goal.returns
returns g c = wrote_then _ _ c.in_ok-serialize_u64.ensures c.extend.ensures (λ e. absurd) absurd
