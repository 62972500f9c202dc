use Rattle.std.proofs.Common.{◌∙◌, refl}
use Rattle.postcard_de_nodes.specs.ArrayLemmas.{array_read, array_refused}
use Rattle.postcard_de_nodes.specs.ReadLemmas.{is_refusal, ends_after_front}
use Rattle.postcard_de_nodes.specs.TakeLemmas.{nothing_taken}
use Rattle.postcard_de_nodes.proofs.ByteLemmas.{bytes_read, bytes_end}
use Rattle.postcard_de_nodes.proofs.floats.byte_array.Goals as goal

pub returns-in_err-lent : goal.returns-in_err-lent
returns-in_err-lent g c =
    let lent = c.try_take_n_temp.follows.holds-at-none in
    rw (is_refusal c.from_residual.result c.in_err-lent.field-0.0 c.from_residual.ensures.1)
    (record {
      reads = array_refused
          (bytes_end g.F.Flavor.lawful (λ a. let bad = c.in_err-lent.ensures.accepts a in cc) lent.1
          c.in_err-lent.ensures.refuses_by_unexpected_end);
      refused = ends_after_front (nothing_taken c.args.flavor.now) (refl, refl)
          (λ a. let bad = c.in_err-lent.ensures.accepts a in cc)
          c.in_err-lent.ensures.refuses_by_unexpected_end;
    })

pub returns : goal.returns
returns g c =
    let laws = g.F.Flavor.lawful in
    let lent = c.try_take_n_temp.follows.holds-at-none in
    let gives = rw c.in_ok-lent.was at lent.0 in
    let e = c.copy_from_slice.ensures.after ∙ c.in_range-front.ensures.same in
    record {
      reads =
          rw e (array_read
          (bytes_read laws c.in_ok-lent.ensures.length c.in_range-front.ensures.range gives lent.1));
      refused = tt;
    }
