-- The frame was made at the start of the slice.
use Rattle.std.proofs.Common.{◌++◌, take, ap, ◌∙◌}
use Rattle.std.proofs.lemmas.Result.{IfOk-weaker}
use Rattle.postcard_wire.specs.Spelling.{canonical}
use Rattle.crc.specs.Checked.{low_bytes}
use Rattle.postcard_cobs.specs.Groups.{made}
use Rattle.postcard_crc.specs.Writing.{IsFrameWithCrc}
use Rattle.postcard_crc.proofs.ser.cobs.to_slice_cobs.Goals as goal

pub returns-clause-gives : goal.returns-clause-gives
returns-clause-gives g c =
    let enc = canonical (g.T.Shaped.shape.tree c.args.value.now) in
    let k = g.W.Width.size in
    IfOk-weaker c.framed.result _ (λ front. IsFrameWithCrc k c.args.digest enc front.now)
    (λ front h. record { crc = h.0; is_crc = h.1; frames = h.2.3 ∙ h.2.1 ∙ ap (λ n. take n c.new.result.buffer ++ made (enc ++ low_bytes k h.0)) c.new.ensures.starts_empty.1 })
    c.framed.ensures.gives
