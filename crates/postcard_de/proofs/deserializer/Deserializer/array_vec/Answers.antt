use Rattle.std.proofs.Common.{◌≡◌, suc, ◌<◌, ◌+◌, ◌-◌, ◌∷◌, [], ◌++◌, length, ap, arith}
use Rattle.std.proofs.Common.{length-append}
use Rattle.std.proofs.lemmas.Grind.{common_steps}
use Rattle.postcard_de_nodes.specs.ReadLemmas.{is_refusal}
use Rattle.postcard_de.proofs.Entries.{few_read, few_refused, too_many, few_count_refused}
use Rattle.postcard_de.proofs.Lists.{going, goes_on, going_stops, going_done}
use Rattle.postcard_de.proofs.deserializer.Deserializer.array_vec.Goals as goal

pub returns-in_err-count : goal.returns-in_err-count
returns-in_err-count g c =
    rw (is_refusal c.from_residual.result c.in_err-count.field-0.0 c.from_residual.ensures.1)
    (few_count_refused g.F.Flavor.lawful c.in_err-count.ensures.reads)

pub loop-init : goal.loop-init
loop-init g c =
    let laws = g.F.Flavor.lawful in
    let n = c.in_ok-count.count in
    let whole : n - 0 ≡ n = omega arith in
    record {
      going = rw (whole, c.new-items.ensures) (going laws);
      counted = ap length c.new-items.ensures;
      few = let e = ap length c.new-items.ensures in omega (arith, e);
      leaves = laws.itself _;
    }

pub returns-in_err-item : goal.returns-in_err-item
returns-in_err-item g c =
    let laws = g.F.Flavor.lawful in
    let n = c.in_ok-count.count in
    let i = c.loop.counter in
    let more : n - i ≡ suc (n - (i + 1)) = omega arith in
    let e = c.in_err-item.field-0.0 in
    rw (is_refusal c.from_residual-in_err-item.result e c.from_residual-in_err-item.ensures.1)
    (few_refused laws c.in_ok-count.ensures.reads
    (going_stops laws (λ e h. h) (rw more at c.loop.invariant.going) c.in_err-item.ensures))

pub returns-then-is_err : goal.returns-then-is_err
returns-then-is_err g c =
    let laws = g.F.Flavor.lawful in
    let so = c.loop.invariant in
    let full : length c.loop.items.items ≡ g.row.CAP = grind (arith, common_steps) in
    let more : c.loop.counter < c.in_ok-count.count = omega arith in
    too_many laws c.in_ok-count.ensures.reads tt (λ few. omega (arith, few, full, more, so.counted))
    (laws.joins _ _ _ so.leaves c.in_ok-item.ensures.leaves)

pub loop-preserved : goal.loop-preserved
loop-preserved g c =
    let laws = g.F.Flavor.lawful in
    let so = c.loop.invariant in
    let n = c.in_ok-count.count in
    let i = c.loop.counter in
    let items = c.loop.items.items in
    let longer = c.try_push.new.self.items in
    let more : n - i ≡ suc (n - (i + 1)) = omega arith in
    let e : longer ≡ items ++ c.in_ok-item.item ∷ [] = grind (arith, common_steps) in
    let room : length items < g.row.CAP = grind (arith, common_steps) in
    let long : length longer ≡ length items + 1 = rw (e, length-append) (omega arith) in
    record {
      going = rw e (goes_on laws (λ e h. h) (rw more at so.going) c.in_ok-item.ensures);
      counted = omega (arith, long, so.counted);
      few = omega (arith, long, room);
      leaves = laws.joins _ _ _ so.leaves c.in_ok-item.ensures.leaves;
    }

pub returns : goal.returns
returns g c =
    let laws = g.F.Flavor.lawful in
    let so = c.loop.invariant in
    let none : c.in_ok-count.count - c.loop.counter ≡ 0 = omega arith in
    few_read laws c.in_ok-count.ensures.reads (omega (arith, so.counted, so.few))
    (going_done laws (rw none at so.going))
