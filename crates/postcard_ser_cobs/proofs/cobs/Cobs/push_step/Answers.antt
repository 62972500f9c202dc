-- The encoder's result keeps the frame open; the byte is refused only without room, or after a
-- refusal.
use Rattle.std.proofs.Common.{◌++◌, [], ◌∷◌, refl, arith, rules}
use Rattle.std.proofs.Math.Logic.{∥∥₁_elim, ∥∥₁_map}
use Rattle.std.proofs.lemmas.Grind.{common_steps}
use Rattle.std.specs.Coded.{le_prop}
use Rattle.postcard_ser_cobs.specs.FramingLaws.{not_both}
use Rattle.postcard_ser_cobs.proofs.StepLemmas.{sets_below, code_held, step_free, place_small, step_holds}
use Rattle.postcard_ser_cobs.proofs.cobs.Cobs.push_step.Goals as goal
use Rattle.postcard_ser_cobs.proofs.cobs.Cobs.push_step.Goals.{then-self-via-then-self, then-self-via-else-self+then-place-gt-MAX_PLACE}

pub returns-then-self : goal.returns-then-self
returns-then-self g c = record {
  pushed = record {
    appends = search rules;
    has_room = λ r.
        elim c.then-self.branch [
          | then-self-via-then-self w ↦ absurd (not_both w.if-self.true r.holds.going)
          | then-self-via-else-self+then-place-gt-MAX_PLACE w ↦ absurd (omega (arith, place_small c.args.byte r, w.place.ensures, w.if-place-gt-MAX_PLACE.true))
        ];
    refused = search rules;
    leaves = search rules;
  };
  stays_refused = search rules;
  storage_kept = search rules;
  remembers_refusal = search rules;
  refuses_by_buffer_full = search rules;
}

pub take_step-requires : goal.take_step-requires
take_step-requires g c =
    let s = c.args.self.now in
    sets_below _ _ _ _ c.push-step.ensures.sets_open_code
    (∥∥₁_elim s.stands le_prop (λ f. let p = f c.if-self.false in code_held p.2))

pub returns-in_err-take_step : goal.returns-in_err-take_step
returns-in_err-take_step g c = record {
  pushed = record {
    appends = search rules;
    has_room = λ r.
        let no = c.in_err-take_step.ensures.has_room (step_free _ g.B.Storage.free_lawful.free_fewer r c.push-step.ensures.open) in
        absurd (cc);
    refused = search rules;
    leaves = search rules;
  };
  stays_refused = search rules;
  storage_kept = search rules;
  remembers_refusal = search rules;
  refuses_by_buffer_full = search rules;
}

pub invariant_of-self-2 : goal.invariant_of-self-2
invariant_of-self-2 g c =
    let s = c.args.self.now in
    record {
      stands = ∥∥₁_map s.stands (λ f _. let p = f c.if-self.false in
          (p.0, p.1 ++ c.args.byte ∷ [], step_holds _ refl c.in_ok-take_step.ensures.changes c.push-step.ensures.open p.2));
    }

pub returns : goal.returns
returns g c = record {
  pushed = record {
    appends = λ before d h. step_holds _ refl c.in_ok-take_step.ensures.changes c.push-step.ensures.open h;
    has_room = search rules;
    refused = search rules;
    leaves = grind (arith, common_steps);
  };
  stays_refused = search rules;
  storage_kept = search rules;
  remembers_refusal = search rules;
  refuses_by_buffer_full = search rules;
}
