-- If a byte is refused, there was no room for all bytes, and what was appended is a beginning of
-- them.
use Rattle.std.proofs.Common.{subst, sym, arith, rules}
use Rattle.std.proofs.lemmas.Result.{err_from_is_err_and}
use Rattle.postcard_ser_flavors.specs.Flavor.{AppendsFront}
use Rattle.postcard_ser_flavors.proofs.Parts.{cut_at, begins_then, begins_more}
use Rattle.postcard_ser_flavors.proofs.flavor.Flavor.try_extend.Goals as goal

pub returns-in_err-try_push : goal.returns-in_err-try_push
returns-in_err-try_push g c =
    let law = g.Self.Flavor.lawful in
    let cut = cut_at c.args.bytes.now c.loop-byte.byte-index (omega arith) in
    let same = err_from_is_err_and c.from_residual.result c.from_residual.ensures.1 in
    record {
      appends = search rules;
      has_room = λ room.
          let taken = c.in_err-try_push.ensures.has_room
          (law.room_front _ _ _ (law.room_rest _ _ _ _ (subst (λ z. g.Self.Flavor.room c.args.self.now z) cut room) c.loop-byte.invariant.done c.loop-byte.invariant.left)) in
          absurd (cc);
      refused = rw same.1 (λ tidy.
          subst (λ z. AppendsFront g.Self.Flavor.appended c.args.self.now z c.try_push.new.self) (sym cut)
          (begins_then law.appended_join _ _ c.loop-byte.invariant.done
          (begins_more _ _ (c.in_err-try_push.ensures.refused tidy))));
      leaves = search rules;
    }
