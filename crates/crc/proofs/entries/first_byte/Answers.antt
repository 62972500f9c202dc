-- The byte fits at the top.
use Rattle.std.proofs.Common.{◌*◌, ◌-◌, ◌^◌, ◌%◌, ap, sym, ◌∙◌}
use Rattle.crc.specs.Register.{first_byte}
use Rattle.crc.proofs.CrcLemmas.{first_made}
use Rattle.crc.proofs.entries.first_byte.Goals as goal

pub returns-else-refin : goal.returns-else-refin
returns-else-refin c =
    c.raised.ensures ∙ ap (λ y. y * 2 ^ (c.args.bits - 8) % 2 ^ c.args.bits) c.from-else-refin.ensures
    ∙ first_made c.args.bits c.args.byte c.requires.some c.ranges.byte.fits
    ∙ ap (λ o. first_byte o c.args.bits c.args.byte) (sym c.if-refin.false)
