use Rattle.std.proofs.Common.{◌≡◌, suc, ◌<◌, ◌-◌, ◌+◌, length, take, arith, rules, add-one}
use Rattle.std.proofs.Math.ListN.{length-set}
use Rattle.std.proofs.Math.Seq.{take-suc-set}
use Rattle.std.proofs.lemmas.List.{take_all, length-replicate}
use Rattle.postcard_de_nodes.specs.ReadLemmas.{is_refusal}
use Rattle.postcard_de_nodes.specs.ArrayLemmas.{array_read, array_refused}
use Rattle.postcard_de.proofs.Lists.{going, goes_on, going_stops, going_done}
use Rattle.postcard_fixint.proofs.Bytewise.{took_none, took_more, byte_lacks}
use Rattle.postcard_fixint.proofs.array.ArrayU8ByteArray.read.Goals as goal

pub loop-i-init : goal.loop-i-init
loop-i-init g c =
    let whole : g.row.N - 0 ≡ g.row.N = omega arith in
    record {
      long = length-replicate g.row.N 0;
      going = rw whole (going g.F.Flavor.lawful);
      took = took_none _;
    }

pub returns-in_err-bytes : goal.returns-in_err-bytes
returns-in_err-bytes g c =
    let laws = g.F.Flavor.lawful in
    let so = c.loop-i.invariant in
    let n = g.row.N in
    let i = c.loop-i.i in
    let more : n - i ≡ suc (n - (i + 1)) = omega arith in
    let few : i < n = omega arith in
    let is = is_refusal c.from_residual.result c.in_err-bytes.field-0.0 c.from_residual.ensures.1 in
    record {
      reads = rw is (array_refused
          (going_stops laws (λ e h. h) (rw more at so.going) c.in_err-bytes.ensures.reads));
      refused = rw is (byte_lacks laws few so.took c.in_err-bytes.ensures.refused);
    }

pub loop-i-preserved : goal.loop-i-preserved
loop-i-preserved g c =
    let laws = g.F.Flavor.lawful in
    let so = c.loop-i.invariant in
    let n = g.row.N in
    let i = c.loop-i.i in
    let more : n - i ≡ suc (n - (i + 1)) = omega arith in
    let within : i < length c.loop-i.bytes = omega arith in
    record {
      long = rw length-set so.long;
      going = rw (add-one, take-suc-set c.loop-i.bytes i c.in_ok-bytes.field-0 within)
          (let k = goes_on laws (λ e h. h) (rw more at so.going) c.in_ok-bytes.ensures.reads in
          rw add-one at k);
      took = took_more so.took c.in_ok-bytes.ensures.reads;
    }

pub returns : goal.returns
returns g c = record {
  reads =
      let laws = g.F.Flavor.lawful in
      let i = c.loop-i.i in
      let none : g.row.N - i ≡ 0 = omega arith in
      let all : take i c.loop-i.bytes ≡ c.loop-i.bytes = take_all i c.loop-i.bytes (omega arith) in
      array_read (going_done laws (rw (none, all) at c.loop-i.invariant.going));
  refused = search rules;
}
