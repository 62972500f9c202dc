-- The inner flavor takes the bytes, as the digest did, and has room for them.
use Rattle.std.proofs.Common.{rules}
use Rattle.std.proofs.lemmas.Result.{on_ok_weaker}
use Rattle.crc.specs.Checked.{low_bytes}
use Rattle.crc.proofs.CheckedLemmas.{length_low}
use Rattle.postcard_crc.specs.Writing.{Continues, bytes_have_room}
use Rattle.postcard_crc.proofs.ser.modifier.CrcModifierFlavor.try_extend.Goals as goal

pub returns : goal.returns
returns g c = record {
  appends =
      on_ok_weaker {P = g.B.Flavor.appended c.args.self.now.flavor c.args.bytes.now c.try_extend.new.self}
      {Q = g.B.Flavor.appended c.args.self.now.flavor c.args.bytes.now c.try_extend.new.self × Continues c.args.self.now.digest c.args.bytes.now c.update.new.self}
      c.try_extend.result (λ h. (h, c.update.ensures)) c.try_extend.ensures.appends;
  has_room = λ r. c.try_extend.ensures.has_room (bytes_have_room g.W.Width.size g.B.Flavor.lawful c.args.self.now.flavor c.args.bytes.now (low_bytes g.W.Width.size 0) (length_low g.W.Width.size 0) r);
  refused = search rules;
  leaves = search rules;
}
