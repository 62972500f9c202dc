-- What is left in the buffer, and where the parts of the frame end.
use Rattle.std.proofs.Common.{inl, inr, refl}
use Rattle.postcard_frame.proofs.Decoded.{is_decoded}
use Rattle.postcard_frame.proofs.cobs.decode.Goals as goal
use Rattle.postcard_frame.proofs.cobs.decode.Goals.{then-report-s, else-report-s}

pub returns-after-report-s-clause-decodes : goal.returns-after-report-s-clause-decodes
returns-after-report-s-clause-decodes c =
    let r = c.in-Ok.ensures in
    is_decoded c.args.s.now _ c.in-Ok.report.src_used c.if-report-s.zero c.decode_in_place_report.auto.buf
    r.past_frame_unchanged r.gives.0 r.gives.1 r.within.0 r.within.1 refl
    (elim c.if-report-s.branch [
      | then-report-s w ↦ inl (w.if-report-s.true, w.zero-is)
      | else-report-s w ↦ inr (w.if-report-s.false, w.zero-is)
    ])
