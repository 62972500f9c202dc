-- A place for the first code is an open frame of no data.
use Rattle.std.proofs.Common.{[], ◌∷◌, sym, ◌∙◌}
use Rattle.postcard_ser_cobs.proofs.StepLemmas.{succeeded}
use Rattle.postcard_ser_cobs.proofs.cobs.Cobs.open.Goals as goal

pub invariant_of-result : goal.invariant_of-result
invariant_of-result g c = record {
  stands = ∣ (λ going. (
    g.B.Storage.held c.args.storage,
    [],
    record {
      going = going;
      frame = 0 ∷ [];
      held_is = succeeded c.push_one.result (sym c.is_err-failed.ensures.value ∙ going) c.push_one.ensures.appends;
      starts = c.held_len-start.ensures;
      stands = c.default.ensures.open 0;
    },
  )) ∣₁;
}
