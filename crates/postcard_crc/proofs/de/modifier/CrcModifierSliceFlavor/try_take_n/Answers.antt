-- The bytes that were taken are in the digest.
use Rattle.postcard_crc.proofs.de.modifier.CrcModifierSliceFlavor.try_take_n.Goals as goal

pub returns-clause-leaves : goal.returns-clause-leaves
returns-clause-leaves g c =
    record { bytes = c.in_ok-front.front.now; joins = c.in_ok-front.ensures.takes.gives.drops; continues = c.update.ensures }
