use Rattle.postcard_c.proofs.Reading.{settled}
use Rattle.postcard_c.proofs.get.postcard_get_char.Goals as goal

pub returns : goal.returns
returns c =
    settled _ _ _ _ c.settle.ensures c.open-source.ensures
    (rw c.code_of-read.ensures c.deserialize_char.ensures.reads)
    (rw c.code_of-read.ensures c.deserialize_char.ensures.refused)
