-- A run becomes data of the open group; it is refused only without room, or after a refusal.
use Rattle.std.proofs.Common.{◌++◌, length, length-append, refl, ap, ◌∙◌, arith, rules}
use Rattle.std.proofs.Math.Logic.{∥∥₁_map}
use Rattle.postcard_ser_cobs.specs.FramingLaws.{not_both}
use Rattle.postcard_ser_cobs.proofs.RunLemmas.{run_holds, piece_free, piece_small, grown_leaves}
use Rattle.postcard_ser_cobs.proofs.cobs.Cobs.push_run.Goals as goal
use Rattle.postcard_ser_cobs.proofs.cobs.Cobs.push_run.Goals.{then-self-via-then-self, then-self-via-else-self+then-place-run}

pub returns-then-self : goal.returns-then-self
returns-then-self g c = record {
  pushed = let s = c.requires.short in
      record {
        appends = search rules;
        has_room = λ r.
            elim c.then-self.branch [
              | then-self-via-then-self w ↦ absurd (not_both w.if-self.true r.holds.going)
              | then-self-via-else-self+then-place-run w ↦ absurd (omega (arith, piece_small _ (omega (arith, s)) r, w.place.ensures, w.if-place-run.true))
            ];
        refused = search rules;
        leaves = search rules;
      };
  stays_refused = search rules;
  storage_kept = search rules;
  remembers_refusal = search rules;
  refuses_by_buffer_full = search rules;
}

pub returns-in_err-push_piece : goal.returns-in_err-push_piece
returns-in_err-push_piece g c = record {
  pushed = let s = c.requires.short in
      record {
        appends = search rules;
        has_room = λ r.
            let no = c.in_err-push_piece.ensures.has_room (piece_free _ (omega (arith, s)) g.B.Storage.free_lawful.free_fewer r) in
            absurd (cc);
        refused = search rules;
        leaves = search rules;
      };
  stays_refused = search rules;
  storage_kept = search rules;
  remembers_refusal = search rules;
  refuses_by_buffer_full = search rules;
}

pub invariant_of-self-2 : goal.invariant_of-self-2
invariant_of-self-2 g c =
    let s = c.args.self.now in
    record {
      stands = ∥∥₁_map s.stands (λ f _. let p = f c.if-self.false in
          (p.0, p.1 ++ c.args.run.now, run_holds _ refl c.in_ok-push_piece.ensures.appends c.push_run.ensures.open p.2));
    }

pub returns : goal.returns
returns g c = record {
  pushed = let said = c.in_ok-push_piece.ensures in
      record {
        appends = λ before d h. run_holds _ refl said.appends c.push_run.ensures.open h;
        has_room = search rules;
        refused = search rules;
        leaves = grown_leaves _ c.if-self.false said.leaves (ap length said.appends ∙ length-append _ _) said.keeps_free;
      };
  stays_refused = search rules;
  storage_kept = search rules;
  remembers_refusal = search rules;
  refuses_by_buffer_full = search rules;
}
