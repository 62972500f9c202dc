use Rattle.postcard_c.proofs.Reading.{settled}
use Rattle.postcard_c.proofs.get.postcard_get_count.Goals as goal

pub returns : goal.returns
returns c =
    settled _ _ _ _ c.settle.ensures c.open-source.ensures
    (rw c.count_of-read.ensures c.deserialize_u64.ensures.reads)
    (rw c.count_of-read.ensures c.deserialize_u64.ensures.refused)
