use Rattle.postcard_c.proofs.Reading.{settled}
use Rattle.postcard_c.proofs.get.get_wide.Goals as goal

pub returns : goal.returns
returns c =
    settled _ _ _ _ c.settle.ensures c.open-source.ensures c.deserialize_u128-read.ensures.reads
    c.deserialize_u128-read.ensures.refused
