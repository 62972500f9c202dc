use Rattle.postcard_shape.specs.Base256.{little}
use Rattle.postcard_fixint.proofs.Numbers.{number_value}
use Rattle.postcard_fixint.proofs.le.LEOfBytes.from_front.Goals as goal

pub returns : goal.returns
returns g c =
    let t = g.T.FixInt in
    number_value _ t.list little t.width g.met.T.FixInt.is_array c.from_front.result _
    c.decode_le.ensures.value c.decode_le.ensures.fits _ c.from_front.ensures
