-- A byte that isn't zero is a run.
use Rattle.std.proofs.Common.{◌++◌, ◌<◌, ◌+◌, [], ◌∷◌, length, length-append, refl, ap, ◌∙◌, arith, rules}
use Rattle.std.proofs.Math.Logic.{∥∥₁_map}
use Rattle.postcard_ser_cobs.proofs.RunLemmas.{run_holds, piece_free, grown_leaves}
use Rattle.postcard_ser_cobs.proofs.cobs.CobsFlavor.try_push.Goals as goal

pub returns-in_err-push_one : goal.returns-in_err-push_one
returns-in_err-push_one g c =
    let byte = c.args.byte ∷ [] in
    let short : length byte + c.args.self.now.encoder.code < 255 = omega (arith, c.takes_run.ensures.short c.if-not-takes_run.false) in
    record {
      pushed = record {
        appends = search rules;
        has_room = λ r.
            let no = c.in_err-push_one.ensures.has_room (piece_free byte short g.B.Storage.free_lawful.free_fewer r) in
            absurd (cc);
        refused = search rules;
        leaves = search rules;
      };
      stays_refused = search rules;
      storage_kept = search rules;
      remembers_refusal = search rules;
      refuses_by_buffer_full = search rules;
    }

pub invariant_of-self-2 : goal.invariant_of-self-2
invariant_of-self-2 g c =
    let s = c.args.self.now in
    let some : 0 < c.args.byte = omega (arith, c.if-byte-eq0.false) in
    let going = c.takes_run.ensures.going c.if-not-takes_run.false in
    record {
      stands = ∥∥₁_map s.stands (λ f _. let p = f going in
          (p.0, p.1 ++ c.args.byte ∷ [], run_holds _ refl c.in_ok-push_one.ensures.appends (λ L d. c.push_run_len.ensures.open (c.args.byte ∷ []) L d refl (some, tt)) p.2));
    }

pub returns : goal.returns
returns g c =
    let some : 0 < c.args.byte = omega (arith, c.if-byte-eq0.false) in
    let going = c.takes_run.ensures.going c.if-not-takes_run.false in
    let said = c.in_ok-push_one.ensures in
    record {
      pushed = record {
        appends = λ before d h. run_holds _ refl said.appends (λ L d. c.push_run_len.ensures.open (c.args.byte ∷ []) L d refl (some, tt)) h;
        has_room = search rules;
        refused = search rules;
        leaves = grown_leaves 1 going said.leaves (ap length said.appends ∙ length-append _ _) said.keeps_free;
      };
      stays_refused = search rules;
      storage_kept = search rules;
      remembers_refusal = search rules;
      refuses_by_buffer_full = search rules;
    }
