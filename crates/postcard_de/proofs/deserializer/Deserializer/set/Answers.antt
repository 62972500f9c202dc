use Rattle.std.proofs.Common.{◌≡◌, suc, ◌-◌, ◌+◌, List, [], ◌∷◌, ◌++◌, sym, ◌∙◌, ap, arith}
use Rattle.std.proofs.lemmas.Grind.{common_steps}
use Rattle.std.specs.BTreeSet.{insert_key}
use Rattle.postcard_de_nodes.specs.ErrorLemmas.{with_memory}
use Rattle.postcard_de_nodes.specs.ReadLemmas.{is_refusal}
use Rattle.postcard_de_nodes.specs.SeenLemmas.{recast, refused_too, passed_on}
use Rattle.postcard_de.proofs.Entries.{keys_inserted_last}
use Rattle.postcard_de.proofs.Lists.{going, goes_on, going_stops, going_full, going_done}
use Rattle.postcard_de_nodes.specs.CountLemmas.{list_read, list_refused, count_refused}
use Rattle.postcard_de.proofs.deserializer.Deserializer.set.Goals as goal

pub returns-in_err-count : goal.returns-in_err-count
returns-in_err-count g c =
    rw (is_refusal c.from_residual.result c.in_err-count.field-0.0 c.from_residual.ensures.1)
    (count_refused g.F.Flavor.lawful c.in_err-count.ensures.reads)

pub loop-init : goal.loop-init
loop-init g c =
    let n = c.in_ok-count.count in
    let whole : n - 0 ≡ n = omega arith in
    record {
      read = [];
      going = rw whole (going g.F.Flavor.lawful);
      made = c.new-set.ensures.empty;
    }

pub returns-in_err-key : goal.returns-in_err-key
returns-in_err-key g c =
    let laws = g.F.Flavor.lawful in
    let n = c.in_ok-count.count in
    let i = c.loop.counter in
    let more : n - i ≡ suc (n - (i + 1)) = omega arith in
    passed_on (λ x a. a) (λ e h. h) c.from_residual-in_err-key.ensures.1
    (list_refused laws (λ (ks : List g.row.K.Denot). ks) c.in_ok-count.ensures.reads
    (going_stops laws (with_memory _) (rw more at c.loop.invariant.going) c.in_err-key.ensures))

pub returns-then-is_err : goal.returns-then-is_err
returns-then-is_err g c =
    let laws = g.F.Flavor.lawful in
    let n = c.in_ok-count.count in
    let i = c.loop.counter in
    let more : n - i ≡ suc (n - (i + 1)) = omega arith in
    refused_too (λ x a. a) (λ e h. h)
    (list_refused laws (λ (ks : List g.row.K.Denot). ks) c.in_ok-count.ensures.reads
    (going_full laws tt (rw more at c.loop.invariant.going) c.in_ok-key.ensures.leaves))

pub loop-preserved : goal.loop-preserved
loop-preserved g c =
    let laws = g.F.Flavor.lawful in
    let cmp = g.K.Ord.cmp in
    let so = c.loop.invariant in
    let n = c.in_ok-count.count in
    let i = c.loop.counter in
    let k = c.in_ok-key.key in
    let before = c.loop.set.keys in
    let more : n - i ≡ suc (n - (i + 1)) = omega arith in
    let e : c.insert.new.self.keys ≡ insert_key cmp before k = grind (arith, common_steps) in
    record {
      read = so.read ++ k ∷ [];
      going = goes_on laws (with_memory _) (rw more at so.going) c.in_ok-key.ensures;
      made = e ∙ ap (λ (ks : List g.row.K.Denot). insert_key cmp ks k) so.made
          ∙ sym (keys_inserted_last cmp so.read [] k);
    }

pub returns : goal.returns
returns g c =
    let laws = g.F.Flavor.lawful in
    let so = c.loop.invariant in
    let none : c.in_ok-count.count - c.loop.counter ≡ 0 = omega arith in
    recast (λ x h. (so.read, h, so.made))
    (list_read laws (λ (ks : List g.row.K.Denot). ks) so.read c.in_ok-count.ensures.reads
    (going_done laws (rw none at so.going)))
