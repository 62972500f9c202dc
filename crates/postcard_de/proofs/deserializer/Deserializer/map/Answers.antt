use Rattle.std.proofs.Common.{◌≡◌, suc, ◌-◌, ◌+◌, List, [], ◌∷◌, ◌++◌, sym, ◌∙◌, ap, arith}
use Rattle.std.proofs.lemmas.Grind.{common_steps}
use Rattle.std.specs.BTreeMap.{insert_entry}
use Rattle.postcard_shape.specs.Maps.{EntryIs}
use Rattle.postcard_de_nodes.specs.ReadLemmas.{is_refusal}
use Rattle.postcard_de_nodes.specs.SeenLemmas.{recast, refused_too, passed_on}
use Rattle.postcard_de.proofs.Entries.{of_pair, inserted_last, key_refused, value_refused, entry_read}
use Rattle.postcard_de.proofs.Lists.{going, goes_on, going_stops, going_full, going_done}
use Rattle.postcard_de_nodes.specs.CountLemmas.{list_read, list_refused, count_refused}
use Rattle.postcard_de.proofs.deserializer.Deserializer.map.Goals as goal

pub returns-in_err-count : goal.returns-in_err-count
returns-in_err-count g c =
    rw (is_refusal c.from_residual.result c.in_err-count.field-0.0 c.from_residual.ensures.1)
    (count_refused g.F.Flavor.lawful c.in_err-count.ensures.reads)

pub loop-init : goal.loop-init
loop-init g c =
    let n = c.in_ok-count.count in
    let whole : n - 0 ≡ n = omega arith in
    record {
      pairs = [];
      going = rw whole (going g.F.Flavor.lawful);
      made = c.new-map.ensures.empty;
    }

pub returns-in_err-key : goal.returns-in_err-key
returns-in_err-key g c =
    let laws = g.F.Flavor.lawful in
    let k = g.K.Shaped.shape in
    let v = g.V.Shaped.shape in
    let n = c.in_ok-count.count in
    let i = c.loop.counter in
    let more : n - i ≡ suc (n - (i + 1)) = omega arith in
    passed_on (λ x a. a) (λ e h. h) c.from_residual-in_err-key.ensures.1
    (list_refused laws (λ (ps : List (g.row.K.Denot × g.row.V.Denot)). ps)
    c.in_ok-count.ensures.reads
    (going_stops laws (of_pair _ _) (rw more at c.loop.invariant.going)
    (key_refused laws {B = g.row.V.Denot} {K = k.reads} {V = v.reads} {H = v.other}
    {value = EntryIs k.value v.value} c.in_err-key.ensures)))

pub returns-in_err-value : goal.returns-in_err-value
returns-in_err-value g c =
    let laws = g.F.Flavor.lawful in
    let n = c.in_ok-count.count in
    let i = c.loop.counter in
    let more : n - i ≡ suc (n - (i + 1)) = omega arith in
    passed_on (λ x a. a) (λ e h. h) c.from_residual-in_err-value.ensures.1
    (list_refused laws (λ (ps : List (g.row.K.Denot × g.row.V.Denot)). ps)
    c.in_ok-count.ensures.reads
    (going_stops laws (of_pair _ _) (rw more at c.loop.invariant.going)
    (value_refused laws c.in_ok-key.ensures c.in_err-value.ensures)))

pub returns-then-is_err : goal.returns-then-is_err
returns-then-is_err g c =
    let laws = g.F.Flavor.lawful in
    let n = c.in_ok-count.count in
    let i = c.loop.counter in
    let more : n - i ≡ suc (n - (i + 1)) = omega arith in
    refused_too (λ x a. a) (λ e h. h)
    (list_refused laws (λ (ps : List (g.row.K.Denot × g.row.V.Denot)). ps)
    c.in_ok-count.ensures.reads
    (going_full laws tt (rw more at c.loop.invariant.going)
    (laws.joins _ _ _ c.in_ok-key.ensures.leaves c.in_ok-value.ensures.leaves)))

pub loop-preserved : goal.loop-preserved
loop-preserved g c =
    let laws = g.F.Flavor.lawful in
    let cmp = g.K.Ord.cmp in
    let so = c.loop.invariant in
    let n = c.in_ok-count.count in
    let i = c.loop.counter in
    let k = c.in_ok-key.key in
    let v = c.in_ok-value.value in
    let before = c.loop.map.entries in
    let more : n - i ≡ suc (n - (i + 1)) = omega arith in
    let e : c.insert.new.self.entries ≡ insert_entry cmp before k v = grind (arith, common_steps) in
    record {
      pairs = so.pairs ++ ((k, v) ∷ []);
      going = goes_on laws (of_pair _ _) (rw more at so.going)
          (entry_read laws c.in_ok-key.ensures c.in_ok-value.ensures);
      made = e
          ∙ ap (λ (es : List (g.row.K.Denot × g.row.V.Denot)). insert_entry cmp es k v) so.made
          ∙ sym (inserted_last cmp so.pairs [] k v);
    }

pub returns : goal.returns
returns g c =
    let laws = g.F.Flavor.lawful in
    let so = c.loop.invariant in
    let none : c.in_ok-count.count - c.loop.counter ≡ 0 = omega arith in
    recast (λ x h. (so.pairs, h, so.made))
    (list_read laws (λ (ps : List (g.row.K.Denot × g.row.V.Denot)). ps) so.pairs
    c.in_ok-count.ensures.reads (going_done laws (rw none at so.going)))
