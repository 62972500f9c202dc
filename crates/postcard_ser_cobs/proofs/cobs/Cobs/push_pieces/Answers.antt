-- One more piece, run or byte continues the data up to the current place.
use Rattle.std.proofs.Common.{take, drop, subst, sym, arith, rules}
use Rattle.std.proofs.lemmas.List.{take-append-drop, take_all}
use Rattle.postcard_ser_cobs.specs.Framing.{HasFrameRoom}
use Rattle.postcard_ser_cobs.specs.FramingLaws.{room_of_rest, leaves_join}
use Rattle.postcard_ser_cobs.proofs.RunLemmas.{holds_further}
use Rattle.postcard_ser_cobs.proofs.cobs.Cobs.push_pieces.Goals as goal

pub loop-place-preserved : goal.loop-place-preserved
loop-place-preserved g c = let so = c.loop-place.invariant in record {
  stuck = λ failed. let no = c.in_ok-place.ensures.stays_refused (so.left.stays_failed failed) in absurd (cc);
  kept = λ failed. let no = c.in_ok-place.ensures.stays_refused (so.left.stays_failed failed) in absurd (cc);
  within = c.in_ok-place.ensures.advances.1;
  done = λ before d h. holds_further before d c.args.bytes.now _ _ c.in_ok-place.ensures.advances.0 (c.in_ok-place.ensures.appends before _ (so.done before d h));
  left = leaves_join g.B.Flavor.lawful.reaches_join so.left c.in_ok-place.ensures.leaves;
}

pub returns-in_err-place-clause-pushed : goal.returns-in_err-place-clause-pushed
returns-in_err-place-clause-pushed g c =
    let s = c.args.self.now in
    let so = c.loop-place.invariant in
    record {
      appends = search rules;
      has_room = λ r.
          let all = subst (λ z. HasFrameRoom g.B.Storage.held g.B.Storage.free s.storage s.start s.encoder s.failed z) (sym (take-append-drop c.loop-place.place c.args.bytes.now)) r in
          let no = c.in_err-place.ensures.has_room (room_of_rest (take c.loop-place.place c.args.bytes.now) (drop c.loop-place.place c.args.bytes.now) all (so.done all.before all.d all.holds) so.left) in
          absurd (cc);
      refused = search rules;
      leaves = leaves_join g.B.Flavor.lawful.reaches_join so.left c.in_err-place.ensures.leaves;
    }

pub returns-clause-pushed : goal.returns-clause-pushed
returns-clause-pushed g c = record {
  appends = let all = take_all c.loop-place.place c.args.bytes.now (omega arith) in rw all at c.loop-place.invariant.done;
  has_room = search rules;
  refused = search rules;
  leaves = search rules;
}

pub returns-clause-stays_refused : goal.returns-clause-stays_refused
returns-clause-stays_refused g c failed some = let none = c.loop-place.invariant.stuck failed in absurd (omega arith)
