-- The bits at the top, by a register of 128 bits.
use Rattle.std.proofs.Common.{◌/◌, ◌^◌, ap, sym, ◌∙◌, mod-eq_of_lt}
use Rattle.crc.specs.Register.{leaving}
use Rattle.crc.proofs.EightLemmas.{top_word, up_fits}
use Rattle.crc.proofs.slice8.leaving.Goals as goal

pub returns-else-refin : goal.returns-else-refin
returns-else-refin c =
    ap (λ y. y / 2 ^ 64) (mod-eq_of_lt (up_fits c.args.bits c.args.register c.requires.few c.requires.fits)) ∙ top_word c.args.bits c.args.register c.requires.few
    ∙ ap (λ o. leaving o c.args.bits 64 c.args.register) (sym c.if-refin.false)
