use Rattle.postcard_c.proofs.Reading.{settled, text_is_read, text_is_refused}
use Rattle.postcard_c.proofs.get.postcard_get_str.Goals as goal

pub returns : goal.returns
returns c =
    let same = c.bytes_of-read.ensures in
    settled _ _ _ _ c.settle.ensures c.open-source.ensures
    (text_is_read _ _ _ _ same c.deserialize_str.ensures.reads)
    (text_is_refused _ _ _ same c.deserialize_str.ensures.refused)
