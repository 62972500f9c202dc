-- Byte after byte: one more byte appends its digits and a blank.
use Rattle.std.proofs.Common.{arith}
use Rattle.std.proofs.KnownBytes.{Appends-trans}
use Rattle.pcard_explain.proofs.LayoutLemmas.{spaced_more}
use Rattle.pcard_explain.proofs.layout.print_spaced.Goals as goal

pub loop-byte-preserved : goal.loop-byte-preserved
loop-byte-preserved g c =
    rw (spaced_more c.args.bytes.now c.loop-byte.byte-index (omega arith))
    (Appends-trans _ _ _ _ _ c.loop-byte.invariant (Appends-trans _ _ _ _ _ c.in_ok-write_hex.ensures c.in_ok-write_all.ensures.bytes))
