use Rattle.postcard_c.proofs.Reading.{settled}
use Rattle.postcard_c.proofs.get.postcard_get_bytes.Goals as goal

pub returns : goal.returns
returns c =
    settled _ _ _ _ c.settle.ensures c.open-source.ensures c.deserialize_bytes-read.ensures.reads
    c.deserialize_bytes-read.ensures.refused
