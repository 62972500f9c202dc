-- What was written is within the buffer.
use Rattle.std.proofs.Common.{◌+◌, ◌≤◌, ◌++◌, length, take, subst, sym, ap, ◌∙◌, rules}
use Rattle.std.proofs.lemmas.Result.{IfOk-weaker}
use Rattle.crc.specs.Checked.{low_bytes}
use Rattle.postcard_crc.specs.Reading.{IsWithCrc}
use Rattle.postcard_wire.specs.Spelling.{canonical}
use Rattle.postcard_crc.proofs.Room.{at_success, slice_within, slice_room}
use Rattle.postcard_crc.proofs.ser.to_slice.Goals as goal

pub returns : goal.returns
returns g c = record {
  gives =
      let enc = canonical (g.T.Shaped.shape.tree c.args.value.now) in
      let k = g.W.Width.size in
      IfOk-weaker c.serialize_with_checksum.result _ (λ front. IsWithCrc k c.args.digest enc front.now)
      (λ front f. record { crc = f.crc; is_crc = f.is_crc; joins = f.ended.ended ∙ f.ended.appended ∙ ap (λ n. take n c.new.result.buffer ++ (enc ++ low_bytes k f.crc)) c.new.ensures.starts_empty.1 })
      c.serialize_with_checksum.ensures.gives;
  fits_iff = λ willing.
      let enc = canonical (g.T.Shaped.shape.tree c.args.value.now) in
      let k = g.W.Width.size in
      let s = c.new.result in
      let start = c.new.ensures.starts_empty in
      let size = ap length start.0 in
      let r = c.serialize_with_checksum.result in (
        λ ok. at_success _ _ (length enc + k ≤ length c.args.buf.now) r ok c.serialize_with_checksum.ensures.gives c.serialize_with_checksum.ensures.gives
            (λ o f h. subst (λ n. length enc + k ≤ n) size (slice_within k f.crc s f.ended.last enc start.1 f.ended.appended f.ended.reached)),
        λ few. c.serialize_with_checksum.ensures.has_room willing
            (λ ys count. slice_room s ys (length enc + k) start.1 count (subst (λ n. length enc + k ≤ n) (sym size) few)),
      );
  own_error = λ few.
      let enc = canonical (g.T.Shaped.shape.tree c.args.value.now) in
      let k = g.W.Width.size in
      let start = c.new.ensures.starts_empty in
      c.serialize_with_checksum.ensures.own_error
      (λ ys count. slice_room c.new.result ys (length enc + k) start.1 count (subst (λ n. length enc + k ≤ n) (sym (ap length start.0)) few));
  named_error = search rules;
  fits = search rules;
}
