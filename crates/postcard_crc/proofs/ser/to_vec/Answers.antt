-- What was written is within the capacity.
use Rattle.std.proofs.Common.{◌+◌, ◌≤◌, ◌++◌, List, ℕ, length, ap, ◌∙◌, rules, arith}
use Rattle.std.specs.Result.{IfOk}
use Rattle.std.proofs.lemmas.Result.{IfOk-weaker}
use Rattle.crc.specs.Checked.{low_bytes}
use Rattle.postcard_crc.specs.Reading.{IsWithCrc}
use Rattle.postcard_wire.specs.Spelling.{canonical}
use Rattle.postcard_crc.proofs.Room.{at_success, list_within}
use Rattle.postcard_crc.proofs.ser.to_vec.Goals as goal

pub returns : goal.returns
returns g c = record {
  gives =
      let enc = canonical (g.T.Shaped.shape.tree c.args.value.now) in
      let k = g.W.Width.size in
      IfOk-weaker c.serialize_with_checksum.result _ (λ vec. IsWithCrc k c.args.digest enc vec.items)
      (λ vec f. record { crc = f.crc; is_crc = f.is_crc; joins = f.ended.ended ∙ f.ended.appended ∙ ap (λ (s : List ℕ). s ++ (enc ++ low_bytes k f.crc)) c.new.ensures })
      c.serialize_with_checksum.ensures.gives;
  fits_iff = λ willing.
      let enc = canonical (g.T.Shaped.shape.tree c.args.value.now) in
      let k = g.W.Width.size in
      let r = c.serialize_with_checksum.result in
      let bound : IfOk r (λ v. length v.items ≤ g.row.B) = search rules in
      let size = ap length c.new.ensures in (
        λ ok. at_success _ _ (length enc + k ≤ g.row.B) r ok bound c.serialize_with_checksum.ensures.gives
            (λ v few f. list_within k f.crc c.new.result v.items enc g.row.B c.new.ensures (f.ended.ended ∙ f.ended.appended) few),
        λ few. c.serialize_with_checksum.ensures.has_room willing (λ ys count. omega (arith, size)),
      );
  own_error = λ few.
      let size = ap length c.new.ensures in
      c.serialize_with_checksum.ensures.own_error (λ ys count. omega (arith, size));
  named_error = search rules;
  fits = search rules;
}
