-- With room for no bytes, there is room for the checksum, and after it room to end.
use Rattle.std.proofs.Common.{take, length, ap, subst, ◌∙◌, arith, rules}
use Rattle.std.proofs.lemmas.Result.{IfOk-weaker}
use Rattle.crc.proofs.CheckedLemmas.{length_low}
use Rattle.postcard_crc.specs.Writing.{EndsWithCrc, end_has_room}
use Rattle.postcard_crc.proofs.ser.modifier.CrcModifierFlavor.finalize.Goals as goal

pub returns-in_err-try_extend : goal.returns-in_err-try_extend
returns-in_err-try_extend g c = record {
  gives = search rules;
  closes = λ r.
      let size = ap length c.trailer_of-trailer.ensures.bytes ∙ length_low g.W.Width.size (g.W.Width.number c.finalize.result) in
      let h = c.in_err-try_extend.ensures.has_room (r (take c.trailer_of-trailer.result.len c.trailer_of-trailer.result.bytes) (omega arith)) in cc;
}

pub returns : goal.returns
returns g c = record {
  gives =
      IfOk-weaker c.finalize-2.result
      (λ output. g.B.Flavor.finishes c.try_extend.new.self output)
      (λ output. EndsWithCrc g.B.Flavor g.W.Width.size c.args.self.digest c.args.self.flavor output)
      (λ output e. record {
        crc = g.W.Width.number c.finalize.result;
        is_crc = c.finalize.ensures;
        last = c.try_extend.new.self;
        appended = subst (λ y. g.B.Flavor.appended c.args.self.flavor y c.try_extend.new.self) c.trailer_of-trailer.ensures.bytes c.in_ok-try_extend.ensures.appends;
        reached = c.try_extend.ensures.leaves;
        ended = e;
      })
      c.finalize-2.ensures.gives;
  closes = λ r.
      c.finalize-2.ensures.closes (end_has_room g.W.Width.size g.B.Flavor.lawful c.args.self.flavor c.try_extend.new.self (take c.trailer_of-trailer.result.len c.trailer_of-trailer.result.bytes)
      (ap length c.trailer_of-trailer.ensures.bytes ∙ length_low g.W.Width.size (g.W.Width.number c.finalize.result)) r c.in_ok-try_extend.ensures.appends c.try_extend.ensures.leaves);
}
