-- The digits are a run: at most 10 bytes, none of them zero.
use Rattle.std.proofs.Common.{◌++◌, ◌<◌, ◌+◌, length, length-append, refl, sym, ap, ◌∙◌, arith, rules}
use Rattle.std.proofs.Math.Logic.{∥∥₁_map}
use Rattle.postcard_wire.specs.Number.{digits}
use Rattle.postcard_wire.proofs.Writing.{few_64}
use Rattle.postcard_ser_cobs.proofs.NumberLemmas.{digits_free}
use Rattle.postcard_ser_cobs.proofs.RunLemmas.{run_holds, piece_free, grown_leaves}
use Rattle.postcard_ser_cobs.proofs.cobs.CobsFlavor.try_varint.Goals as goal

pub returns-in_err-len : goal.returns-in_err-len
returns-in_err-len g c =
    let few = few_64 c.args.n (omega (arith, c.ranges.n.fits)) in
    let short : length (digits c.args.n) + c.args.self.now.encoder.code < 255 = omega (arith, few, c.takes_run.ensures.short c.if-not-takes_run.false) in
    record {
      pushed = record {
        appends = search rules;
        has_room = λ r.
            let no = c.in_err-len.ensures.has_room (piece_free (digits c.args.n) short g.B.Storage.free_lawful.free_fewer r) in
            absurd (cc);
        refused = search rules;
        leaves = search rules;
      };
      stays_refused = search rules;
      storage_kept = search rules;
      remembers_refusal = search rules;
      refuses_by_buffer_full = search rules;
    }

pub push_run_len-requires-clause-short : goal.push_run_len-requires-clause-short
push_run_len-requires-clause-short g c =
    omega (arith, few_64 c.args.n (omega (arith, c.ranges.n.fits)), c.in_ok-len.ensures.counts, c.takes_run.ensures.short c.if-not-takes_run.false)

pub push_run_len-requires-clause-countable : goal.push_run_len-requires-clause-countable
push_run_len-requires-clause-countable g c =
    omega (arith, few_64 c.args.n (omega (arith, c.ranges.n.fits)), c.in_ok-len.ensures.counts, c.takes_run.ensures.countable c.if-not-takes_run.false)

pub invariant_of-self-2 : goal.invariant_of-self-2
invariant_of-self-2 g c =
    let s = c.args.self.now in
    let free = digits_free c.args.n (omega (arith, c.if-n-eq0.false)) in
    record {
      stands = ∥∥₁_map s.stands (λ f _. let p = f (c.takes_run.ensures.going c.if-not-takes_run.false) in
          (p.0, p.1 ++ digits c.args.n, run_holds _ refl c.in_ok-len.ensures.appends (λ L d. c.push_run_len.ensures.open _ L d (sym c.in_ok-len.ensures.counts) free) p.2));
    }

pub returns : goal.returns
returns g c =
    let free = digits_free c.args.n (omega (arith, c.if-n-eq0.false)) in
    let said = c.in_ok-len.ensures in
    record {
      pushed = record {
        appends = λ before d h. run_holds _ refl said.appends (λ L d. c.push_run_len.ensures.open _ L d (sym said.counts) free) h;
        has_room = search rules;
        refused = search rules;
        leaves = grown_leaves _ (c.takes_run.ensures.going c.if-not-takes_run.false) said.leaves (ap length said.appends ∙ length-append _ _) said.keeps_free;
      };
      stays_refused = search rules;
      storage_kept = search rules;
      remembers_refusal = search rules;
      refuses_by_buffer_full = search rules;
    }
