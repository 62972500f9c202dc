-- The bytes before `rest` are those that the value was read from.
use Rattle.std.proofs.Common.{◌++◌, subst}
use Rattle.crc.specs.Digest.{Took}
use Rattle.postcard_crc.proofs.Split.{front_of}
use Rattle.postcard_crc.proofs.de.crc_before.Goals as goal

pub returns : goal.returns
returns g c front e a m h =
    c.finalize.ensures a (m ++ front)
    (subst (λ y. Took c.update.new.self a (m ++ y)) (front_of c.args.bytes.now front c.args.rest.now e) (c.update.ensures a m h))
