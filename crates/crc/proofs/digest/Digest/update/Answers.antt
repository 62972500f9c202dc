-- The register takes the bytes by the tables.
use Rattle.std.proofs.Common.{◌*◌}
use Rattle.crc.specs.Algorithm.{parameters}
use Rattle.crc.proofs.DigestLemmas.{more_taken}
use Rattle.crc.proofs.digest.Digest.update.Goals as goal

pub returns : goal.returns
returns g c a m =
    more_taken (8 * g.W.Width.size) (parameters g.W.Width.number c.crc.inside.algorithm) c.self.inside.crc.now c.crc.view_is
    (g.W.Width.number c.self.inside.register) (g.W.Width.number c.update-self-inside.result) c.args.bytes.now c.update-self-inside.ensures c.args.self.now c.self.view_is a m
