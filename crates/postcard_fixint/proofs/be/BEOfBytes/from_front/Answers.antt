use Rattle.postcard_shape.specs.Base256.{big}
use Rattle.postcard_fixint.proofs.Numbers.{number_value}
use Rattle.postcard_fixint.proofs.be.BEOfBytes.from_front.Goals as goal

pub returns : goal.returns
returns g c =
    let t = g.T.FixInt in
    number_value _ t.list big t.width g.met.T.FixInt.is_array c.from_front.result _
    c.decode_be.ensures.value c.decode_be.ensures.fits _ c.from_front.ensures
