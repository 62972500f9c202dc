-- Byte after byte: one more byte appends its two digits.
use Rattle.std.proofs.Common.{◌<◌, length, refl, sym, arith}
use Rattle.std.proofs.Output.{has_written_append, has_written_of_eq}
use Rattle.postcard_value_text.proofs.Joined.{hexadecimal_more}
use Rattle.postcard_value_text.proofs.leaves.show_bytes.Goals as goal

pub loop-byte-preserved : goal.loop-byte-preserved
loop-byte-preserved g c = λ plain ok.
    let bs = c.deref-byte-items.result.now in
    let i = c.loop-byte.byte-index in
    let low : i < length bs = omega arith in
    let so = c.loop-byte.invariant plain ok in
    has_written_of_eq _ _ _ _ _ (sym (hexadecimal_more bs i low))
    (has_written_append _ _ _ _ _ _ so (c.in_ok-show_byte.ensures so.plain refl))
