-- The buffer is what the attempt left of it.
use Rattle.std.proofs.Common.{rules}
use Rattle.postcard.proofs.Framed.{front_decodes}
use Rattle.postcard.proofs.cobs.fill_slice_cobs.Goals as goal

pub returns-else-failed-clause-decodes : goal.returns-else-failed-clause-decodes
returns-else-failed-clause-decodes g c =
    let w = c.write_frame-all.ensures.attempts.written c.if-failed.false in
    front_decodes _ _ c.args.buf.now _ w.0 (search (rules, w))
