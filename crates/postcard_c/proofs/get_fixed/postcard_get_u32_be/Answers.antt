use Rattle.std.proofs.Common.{refl}
use Rattle.postcard_shape.specs.Base256.{big}
use Rattle.postcard_c.proofs.Fixed.{number_read, number_refused}
use Rattle.postcard_c.proofs.get_fixed.postcard_get_u32_be.Goals as goal

pub returns-then-status-ne0 : goal.returns-then-status-ne0
returns-then-status-ne0 c = number_refused big.value 4 c.fill-status.ensures c.if-status-ne0.true refl

pub returns : goal.returns
returns c = number_read big.value 4 c.fill-status.ensures c.if-status-ne0.false c.decode_be.ensures.value
