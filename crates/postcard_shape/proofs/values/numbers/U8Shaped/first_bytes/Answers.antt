-- The bytes are their own encodings.
use Rattle.std.proofs.Common.{sym}
use Rattle.postcard_shape.proofs.Bytes.{bytes_fit, bytes_of_bytes}
use Rattle.postcard_shape.proofs.values.numbers.U8Shaped.first_bytes.Goals as goal

pub returns-clause-gives : goal.returns-clause-gives
returns-clause-gives c = (sym (bytes_of_bytes c.args.items.now), bytes_fit c.args.items.now c.type_inv.items)
