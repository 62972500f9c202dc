-- The bytes in the message's order.
use Rattle.std.proofs.Common.{ap, ap₂, sym, ◌∙◌}
use Rattle.crc.specs.Crc.{in_order, message}
use Rattle.crc.proofs.EightLemmas.{low_first, high_first}
use Rattle.crc.proofs.slice8.spelled.Goals as goal

pub returns-then-refin : goal.returns-then-refin
returns-then-refin c =
    ap₂ (λ o bs. message o bs) c.if-refin.true c.to_le_bytes.ensures ∙ low_first c.args.word ∙ ap (λ o. in_order o 64 c.args.word) (sym c.if-refin.true)

pub returns-else-refin : goal.returns-else-refin
returns-else-refin c =
    ap₂ (λ o bs. message o bs) c.if-refin.false c.to_be_bytes.ensures ∙ high_first c.args.word c.ranges.word.fits ∙ ap (λ o. in_order o 64 c.args.word) (sym c.if-refin.false)
