-- The bytes that were taken are in the digest.
use Rattle.std.proofs.Common.{refl}
use Rattle.postcard_crc.proofs.de.modifier.CrcModifierSliceFlavor.try_take_n_temp.Goals as goal

pub returns : goal.returns
returns g c = (
  (
    refl,
    (λ s. tt),
    (
      record { drops = c.in_ok-taken.ensures.takes.gives.drops; scratch = c.in_ok-taken.ensures.takes.gives.scratch; keeps = c.in_ok-taken.ensures.takes.gives.keeps },
      record { bytes = c.in_ok-taken.taken.now; joins = c.in_ok-taken.ensures.takes.gives.drops; continues = c.update.ensures },
    ),
  ),
  record { length = c.in_ok-taken.ensures.length; gives = tt; accepts = λ h. refl; refuses_by_unexpected_end = tt },
)
