-- The frame was made in an empty vector, so the vector has just the frame.
use Rattle.std.proofs.Common.{◌++◌, List, ℕ, ap, ◌∙◌, rules}
use Rattle.std.proofs.lemmas.Result.{IfOk-weaker}
use Rattle.postcard_wire.specs.Spelling.{canonical}
use Rattle.crc.specs.Checked.{low_bytes}
use Rattle.postcard_cobs.specs.Groups.{made}
use Rattle.postcard_crc.specs.Writing.{IsFrameWithCrc}
use Rattle.postcard_crc.proofs.ser.cobs.to_allocvec_cobs.Goals as goal

pub returns : goal.returns
returns g c = record {
  gives =
      let enc = canonical (g.T.Shaped.shape.tree c.args.value.now) in
      let k = g.W.Width.size in
      IfOk-weaker c.framed.result _ (λ vec. IsFrameWithCrc k c.args.digest enc vec.items)
      (λ vec h. record { crc = h.0; is_crc = h.1; frames = h.2.3 ∙ h.2.1 ∙ ap (λ (s : List ℕ). s ++ made (enc ++ low_bytes k h.0)) c.new.ensures })
      c.framed.ensures.gives;
  named_error = search rules;
  fits = search rules;
}
