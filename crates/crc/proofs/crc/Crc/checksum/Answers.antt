-- All bytes, after none.
use Rattle.std.proofs.Common.{[]}
use Rattle.crc.proofs.crc.Crc.checksum.Goals as goal

pub returns : goal.returns
returns g c = c.finalize.ensures c.args.self.now c.args.bytes.now (c.update.ensures c.args.self.now [] c.digest-digest.ensures)
