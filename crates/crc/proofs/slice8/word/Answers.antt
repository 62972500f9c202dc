-- The number of eight bytes in the message's order.
use Rattle.std.proofs.Common.{true, false, ap, sym, ◌∙◌}
use Rattle.std.proofs.lemmas.Nat.{le_bytes_8, be_bytes_8}
use Rattle.crc.specs.Crc.{in_order, message}
use Rattle.crc.proofs.EightLemmas.{low_first, high_first}
use Rattle.crc.proofs.slice8.word.Goals as goal

pub returns-then-refin : goal.returns-then-refin
returns-then-refin c =
    let n = c.from_le_bytes.result in
    let bytes = c.args.eight.now in
    ap (λ o. in_order o 64 n) c.if-refin.true ∙ sym (low_first n)
    ∙ ap (λ bs. message true bs) (le_bytes_8 bytes n c.requires (λ i. (c.type_inv.eight i).fits) c.from_le_bytes.ensures) ∙ ap (λ o. message o bytes) (sym c.if-refin.true)

pub returns-else-refin : goal.returns-else-refin
returns-else-refin c =
    let n = c.from_be_bytes.result in
    let bytes = c.args.eight.now in
    ap (λ o. in_order o 64 n) c.if-refin.false ∙ sym (high_first n c.from_be_bytes.type_inv)
    ∙ ap (λ bs. message false bs) (be_bytes_8 bytes n c.requires (λ i. (c.type_inv.eight i).fits) c.from_be_bytes.ensures) ∙ ap (λ o. message o bytes) (sym c.if-refin.false)
