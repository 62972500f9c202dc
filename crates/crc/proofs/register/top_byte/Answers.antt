-- The register has no more bits.
use Rattle.crc.proofs.CrcLemmas.{top_below}
use Rattle.crc.proofs.register.top_byte.Goals as goal

pub overflow_cast-result-2 : goal.overflow_cast-result-2
overflow_cast-result-2 c = record { fits = top_below c.args.bits 8 c.args.register c.requires.some c.requires.fits }
