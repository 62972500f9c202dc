use Rattle.std.proofs.Common.{◌≡◌, suc, ◌-◌, ◌+◌, ◌∷◌, [], List, Vec, Global, vec_len, length, arith, ap, length-append}
use Rattle.postcard_de_nodes.specs.ErrorLemmas.{with_memory}
use Rattle.postcard_de_nodes.specs.ReadLemmas.{is_refusal}
use Rattle.postcard_de.proofs.Lists.{going, going_same, goes_on, goes_on_by, going_stops, going_full, going_done}
use Rattle.postcard_de_nodes.specs.CountLemmas.{list_read, list_refused, count_refused}
use Rattle.postcard_de.proofs.deserializer.Deserializer.list.Goals as goal

pub returns-in_err-count : goal.returns-in_err-count
returns-in_err-count g c =
    rw (is_refusal c.from_residual.result c.in_err-count.field-0.0 c.from_residual.ensures.1)
    (count_refused g.F.Flavor.lawful c.in_err-count.ensures.reads)

pub elements-init : goal.elements-init
elements-init g c =
    let n = c.in_ok-count.count in
    let whole : n - vec_len c.new-items.result ≡ n = omega (arith, c.new-items.ensures.len) in
    record {
      within = omega (arith, c.new-items.ensures.len);
      so = rw (whole, c.new-items.ensures.items) (going g.F.Flavor.lawful);
    }

pub returns-in_err-appended : goal.returns-in_err-appended
returns-in_err-appended g c =
    let laws = g.F.Flavor.lawful in
    let len = vec_len c.elements.items in
    let n = c.in_ok-count.count in
    let more : n - len ≡ suc (n - (len + 1)) = omega (arith, c.elements-test.true) in
    let e = c.in_err-appended.field-0.0 in
    let why = c.in_err-appended.ensures.refused in
    rw (
      is_refusal c.from_residual-in_err-appended.result e c.from_residual-in_err-appended.ensures.1,
      why.0,
    )
    (list_refused laws (λ (v : Vec g.row.T.Denot Global). v.items) c.in_ok-count.ensures.reads
    (going_full laws tt (rw more at c.elements.invariant.so) (rw why.1 (laws.itself _))))

pub elements-preserved-then-appended : goal.elements-preserved-then-appended
elements-preserved-then-appended g c =
    let n = c.in_ok-count.count in
    let old = c.elements.items in
    let new = c.append_at_hand.new.items in
    let read = rw c.if-appended.true at c.in_ok-appended.ensures.reads in
    let grown = ap (λ (z : List g.row.T.Denot). length z) read.1 in
    let sum = length-append old.items read.0 in
    let rest : n - vec_len old ≡ length read.0 + (n - vec_len new) =
    omega (arith, old.ok.0, new.ok.0, grown, sum, read.3, c.elements-test.true) in
    record {
      within = omega (arith, old.ok.0, new.ok.0, grown, sum, read.3, c.elements-test.true);
      so = rw read.1 (goes_on_by g.F.Flavor.lawful (rw rest at c.elements.invariant.so) read.4);
    }

pub elements-smaller-then-appended : goal.elements-smaller-then-appended
elements-smaller-then-appended g c =
    let old = c.elements.items in
    let new = c.append_at_hand.new.items in
    let read = rw c.if-appended.true at c.in_ok-appended.ensures.reads in
    let grown = ap (λ (z : List g.row.T.Denot). length z) read.1 in
    let sum = length-append old.items read.0 in
    omega (arith, old.ok.0, new.ok.0, grown, sum, read.2, read.3, c.elements-test.true)

pub returns-in_err-item : goal.returns-in_err-item
returns-in_err-item g c =
    let laws = g.F.Flavor.lawful in
    let len = vec_len c.elements.items in
    let n = c.in_ok-count.count in
    let more : n - len ≡ suc (n - (len + 1)) = omega (arith, c.elements-test.true) in
    let same = rw c.if-appended.false at c.in_ok-appended.ensures.reads in
    let e = c.in_err-item.field-0.0 in
    rw (is_refusal c.from_residual-in_err-item.result e c.from_residual-in_err-item.ensures.1)
    (list_refused laws (λ (v : Vec g.row.T.Denot Global). v.items) c.in_ok-count.ensures.reads
    (going_stops laws (with_memory _) (going_same laws same (rw more at c.elements.invariant.so))
    c.in_err-item.ensures))

pub returns-in_err-push_announced : goal.returns-in_err-push_announced
returns-in_err-push_announced g c =
    let laws = g.F.Flavor.lawful in
    let len = vec_len c.elements.items in
    let n = c.in_ok-count.count in
    let more : n - len ≡ suc (n - (len + 1)) = omega (arith, c.elements-test.true) in
    let same = rw c.if-appended.false at c.in_ok-appended.ensures.reads in
    let e = c.in_err-push_announced.field-0.0 in
    rw (
      is_refusal c.from_residual-in_err-push_announced.result e
          c.from_residual-in_err-push_announced.ensures.1,
      c.in_err-push_announced.ensures.only_out_of_memory,
    )
    (list_refused laws (λ (v : Vec g.row.T.Denot Global). v.items) c.in_ok-count.ensures.reads
    (going_full laws tt (going_same laws same (rw more at c.elements.invariant.so))
    c.in_ok-item.ensures.leaves))

pub elements-preserved : goal.elements-preserved
elements-preserved g c =
    let n = c.in_ok-count.count in
    let old = c.elements.items in
    let new = c.push_announced.new.items in
    let same = rw c.if-appended.false at c.in_ok-appended.ensures.reads in
    let more : n - vec_len old ≡ suc (n - (vec_len old + 1)) = omega (arith, c.elements-test.true) in
    let kept = ap (λ (z : List g.row.T.Denot). length z) same.0 in
    let pushed = c.in_ok-push_announced.ensures.pushed in
    let grown = ap (λ (z : List g.row.T.Denot). length z) pushed in
    let sum = length-append c.append_at_hand.new.items.items (c.in_ok-item.item ∷ []) in
    let rest : n - vec_len new ≡ n - (vec_len old + 1) =
    omega (arith, old.ok.0, new.ok.0, kept, grown, sum) in
    record {
      within = omega (arith, old.ok.0, new.ok.0, kept, grown, sum, c.elements-test.true);
      so = rw (pushed, rest) (goes_on g.F.Flavor.lawful (with_memory _)
          (going_same g.F.Flavor.lawful same (rw more at c.elements.invariant.so)) c.in_ok-item.ensures);
    }

pub elements-smaller : goal.elements-smaller
elements-smaller g c =
    let old = c.elements.items in
    let new = c.push_announced.new.items in
    let same = rw c.if-appended.false at c.in_ok-appended.ensures.reads in
    let kept = ap (λ (z : List g.row.T.Denot). length z) same.0 in
    let grown = ap (λ (z : List g.row.T.Denot). length z) c.in_ok-push_announced.ensures.pushed in
    let sum = length-append c.append_at_hand.new.items.items (c.in_ok-item.item ∷ []) in
    omega (arith, old.ok.0, new.ok.0, kept, grown, sum, c.elements-test.true)

pub returns : goal.returns
returns g c =
    let laws = g.F.Flavor.lawful in
    let none : c.in_ok-count.count - vec_len c.elements.items ≡ 0 = omega (arith, c.elements-test.false) in
    list_read laws (λ (v : Vec g.row.T.Denot Global). v.items) c.elements.items
    c.in_ok-count.ensures.reads (going_done laws (rw none at c.elements.invariant.so))
