-- The buffer after decoding in place, and the lengths of the frame and its data.
use Rattle.std.proofs.Common.{refl}
use Rattle.postcard_crc.proofs.Decoding.{is_decoded, has_none}
use Rattle.postcard_crc.proofs.de.cobs.decode_frame.Goals as goal

pub returns-in-Ok-clause-decodes : goal.returns-in-Ok-clause-decodes
returns-in-Ok-clause-decodes c =
    let r = c.in-Ok.ensures in
    is_decoded c.args.s.now _ c.decode_in_place_report.auto.buf r.past_frame_unchanged r.gives.0 r.gives.1 r.within.0 r.within.1

pub returns-in-Err-clause-decodes : goal.returns-in-Err-clause-decodes
returns-in-Err-clause-decodes c = has_none c.args.s.now _ c.decode_in_place_report.auto.buf c.in-Err.ensures.past_frame_unchanged refl refl c.in-Err.ensures.no_groups
