-- The bytes were appended to an empty vector, so the vector has just these bytes.
use Rattle.std.proofs.Common.{◌++◌, List, ℕ, ap, ◌∙◌, rules}
use Rattle.std.proofs.lemmas.Result.{IfOk-weaker}
use Rattle.postcard_wire.specs.Spelling.{canonical}
use Rattle.crc.specs.Checked.{low_bytes}
use Rattle.postcard_crc.specs.Reading.{IsWithCrc}
use Rattle.postcard_crc.proofs.ser.to_allocvec.Goals as goal

pub returns : goal.returns
returns g c = record {
  gives =
      let enc = canonical (g.T.Shaped.shape.tree c.args.value.now) in
      let k = g.W.Width.size in
      IfOk-weaker c.serialize_with_checksum.result _ (λ vec. IsWithCrc k c.args.digest enc vec.items)
      (λ vec f. record { crc = f.crc; is_crc = f.is_crc; joins = f.ended.ended ∙ f.ended.appended ∙ ap (λ (s : List ℕ). s ++ (enc ++ low_bytes k f.crc)) c.new.ensures })
      c.serialize_with_checksum.ensures.gives;
  named_error = search rules;
  fits = search rules;
}
