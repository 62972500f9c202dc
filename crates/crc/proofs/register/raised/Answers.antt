-- The mask keeps the lowest bits.
use Rattle.std.proofs.Common.{◌*◌, ◌^◌}
use Rattle.crc.proofs.ReflectionLemmas.{masked}
use Rattle.crc.proofs.register.raised.Goals as goal

pub returns : goal.returns
returns c = masked c.args.bits (c.args.n * 2 ^ c.args.by) c.requires.few
