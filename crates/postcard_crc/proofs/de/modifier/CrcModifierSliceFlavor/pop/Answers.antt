-- The byte that was taken is in the digest.
use Rattle.std.proofs.Common.{[], ◌∷◌}
use Rattle.postcard_crc.proofs.de.modifier.CrcModifierSliceFlavor.pop.Goals as goal

pub returns-clause-leaves : goal.returns-clause-leaves
returns-clause-leaves g c =
    record { bytes = c.in_ok-byte.byte ∷ []; joins = c.in_ok-byte.ensures.gives.drops; continues = c.update.ensures }
