-- The bits in reverse order in 128 bits, and then moved down.
use Rattle.std.proofs.Common.{◌∙◌, ap, sym, ◌-◌, ◌/◌, ◌^◌}
use Rattle.crc.specs.Crc.{in_order}
use Rattle.crc.proofs.ReflectionLemmas.{reversed}
use Rattle.crc.proofs.register.in_order.Goals as goal

pub returns-then-reflected : goal.returns-then-reflected
returns-then-reflected c =
    ap (λ y. y / 2 ^ (128 - c.args.bits)) c.reverse_bits.ensures ∙ reversed c.args.bits c.args.n c.requires.few c.requires.fits
    ∙ ap (λ o. in_order o c.args.bits c.args.n) (sym c.if-reflected.true)
