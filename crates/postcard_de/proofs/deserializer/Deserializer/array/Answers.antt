use Rattle.std.proofs.Common.{◌≡◌, suc, ◌<◌, ◌-◌, ◌+◌, length, take, arith, add-one}
use Rattle.std.proofs.Math.ListN.{length-set}
use Rattle.std.proofs.Math.Seq.{take-suc-set}
use Rattle.std.proofs.lemmas.List.{take_all, length-replicate}
use Rattle.postcard_de_nodes.specs.ReadLemmas.{is_refusal}
use Rattle.postcard_de_nodes.specs.ArrayLemmas.{array_read, array_refused}
use Rattle.postcard_de.proofs.Lists.{going, goes_on, going_stops, going_done}
use Rattle.postcard_de.proofs.deserializer.Deserializer.array.Goals as goal

pub loop-i-init : goal.loop-i-init
loop-i-init g c =
    let whole : g.row.N - 0 ≡ g.row.N = omega arith in
    record {
      long = length-replicate g.row.N c.default-items.result;
      going = rw whole (going g.F.Flavor.lawful);
    }

pub returns-in_err-items : goal.returns-in_err-items
returns-in_err-items g c =
    let laws = g.F.Flavor.lawful in
    let n = g.row.N in
    let i = c.loop-i.i in
    let more : n - i ≡ suc (n - (i + 1)) = omega arith in
    rw (is_refusal c.from_residual.result c.in_err-items.field-0.0 c.from_residual.ensures.1)
    (array_refused
    (going_stops laws (λ e h. h) (rw more at c.loop-i.invariant.going) c.in_err-items.ensures))

pub loop-i-preserved : goal.loop-i-preserved
loop-i-preserved g c =
    let laws = g.F.Flavor.lawful in
    let so = c.loop-i.invariant in
    let n = g.row.N in
    let i = c.loop-i.i in
    let more : n - i ≡ suc (n - (i + 1)) = omega arith in
    let within : i < length c.loop-i.items = omega arith in
    record {
      long = rw length-set so.long;
      going = rw (add-one, take-suc-set c.loop-i.items i c.in_ok-items.field-0 within)
          (let k = goes_on laws (λ e h. h) (rw more at so.going) c.in_ok-items.ensures in
          rw add-one at k);
    }

pub returns : goal.returns
returns g c =
    let laws = g.F.Flavor.lawful in
    let i = c.loop-i.i in
    let none : g.row.N - i ≡ 0 = omega arith in
    let all : take i c.loop-i.items ≡ c.loop-i.items = take_all i c.loop-i.items (omega arith) in
    array_read (going_done laws (rw (none, all) at c.loop-i.invariant.going))
