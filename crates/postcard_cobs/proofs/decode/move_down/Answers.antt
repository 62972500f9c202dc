-- Bytes that are in their place stay there.
use Rattle.std.proofs.Common.{arith, ◌-◌}
use Rattle.postcard_cobs.proofs.Behind.{same_place}
use Rattle.postcard_cobs.proofs.decode.move_down.Goals as goal

pub returns-else-at-from : goal.returns-else-at-from
returns-else-at-from c =
    same_place c.args.buf.now c.args.from c.args.at (c.args.to - c.args.from) (omega arith)
