use Rattle.std.proofs.Common.{◌≡◌, ℕ, List, Vec, Global, ◌∙◌, rules}
use Rattle.postcard_shape.specs.Shape.{never}
use Rattle.postcard_de_nodes.specs.ReadLemmas.{is_refusal}
use Rattle.postcard_de_nodes.specs.CountLemmas.{list_read, list_refused, count_refused}
use Rattle.postcard_de_nodes.specs.SeenLemmas.{recast, no_room, passed_on}
use Rattle.postcard_de_nodes.proofs.ByteLemmas.{bytes_full}
use Rattle.postcard_de_nodes.proofs.ByteLemmas.{bytes_read, bytes_end}
use Rattle.postcard_de_nodes.proofs.bytes.bytes_copy.Goals as goal

pub returns-in_err-count : goal.returns-in_err-count
returns-in_err-count g c =
    record {
      reads =
          rw (is_refusal c.from_residual.result c.in_err-count.field-0.0 c.from_residual.ensures.1)
          (count_refused g.F.Flavor.lawful c.in_err-count.ensures.reads);
      refused = search rules;
    }

pub returns-in_err-lent : goal.returns-in_err-lent
returns-in_err-lent g c =
    let laws = g.F.Flavor.lawful in
    let lent = c.try_take_n_temp.follows.holds-at-none in
    record {
      reads =
          passed_on (λ x a. a) (λ e h. absurd h) c.from_residual-in_err-lent.ensures.1
          (list_refused laws (λ (v : Vec ℕ Global). v.items) c.in_ok-count.ensures.reads
          (bytes_end laws (λ a. let bad = c.in_err-lent.ensures.accepts a in cc) lent.1
          c.in_err-lent.ensures.refuses_by_unexpected_end));
      refused = search rules;
    }

pub returns-in-Ok : goal.returns-in-Ok
returns-in-Ok g c =
    let laws = g.F.Flavor.lawful in
    let lent = c.try_take_n_temp.follows.holds-at-none in
    let gives = rw c.in_ok-lent.was at lent.0 in
    let e : c.in-Ok.copy.items ≡ c.in_ok-lent.lent.now =
    c.in-Ok.ensures.items_if_clones_equal (λ x y h. h) ∙ c.in_range-bytes.ensures.same in
    record {
      reads =
          recast {G = never} (λ x h. h)
          (list_read laws (λ (v : Vec ℕ Global). v.items) c.in-Ok.copy c.in_ok-count.ensures.reads
          (rw e (bytes_read laws c.in_ok-lent.ensures.length c.in_range-bytes.ensures.range gives
          lent.1)));
      refused = tt;
    }

pub returns-in-Err : goal.returns-in-Err
returns-in-Err g c =
    let laws = g.F.Flavor.lawful in
    let lent = c.try_take_n_temp.follows.holds-at-none in
    let gives = rw c.in_ok-lent.was at lent.0 in
    record {
      reads =
          no_room tt
          (list_read laws (λ (u : List ℕ). u) c.in_ok-lent.lent.now c.in_ok-count.ensures.reads
          (bytes_read laws c.in_ok-lent.ensures.length c.in_range-bytes.ensures.range gives lent.1));
      refused = bytes_full laws c.in_ok-count.ensures.reads c.in_ok-lent.ensures.length gives;
    }
