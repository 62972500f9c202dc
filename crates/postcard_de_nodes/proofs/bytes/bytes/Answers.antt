use Rattle.std.proofs.Common.{ℕ, List, Bor, inl, inr}
use Rattle.postcard_de_nodes.specs.ReadLemmas.{is_refusal, widened, ends_after_front}
use Rattle.postcard_de_nodes.specs.CountLemmas.{list_read, list_refused, count_refused}
use Rattle.postcard_de_nodes.specs.NumberLemmas.{number_below, number_spelled}
use Rattle.postcard_de_nodes.proofs.ByteLemmas.{bytes_read, bytes_end}
use Rattle.postcard_de_nodes.proofs.bytes.bytes.Goals as goal

pub returns-in_err-count : goal.returns-in_err-count
returns-in_err-count g c =
    rw (is_refusal c.from_residual.result c.in_err-count.field-0.0 c.from_residual.ensures.1)
    (record {
      reads = count_refused g.F.Flavor.lawful c.in_err-count.ensures.reads;
      refused = widened (λ p n w. inl w) (λ p b. b) c.in_err-count.ensures.refused;
    })

pub returns-in_err-lent : goal.returns-in_err-lent
returns-in_err-lent g c =
    let laws = g.F.Flavor.lawful in
    let count = c.in_ok-count.ensures.reads in
    rw (is_refusal c.from_residual-in_err-lent.result c.in_err-lent.field-0.0
    c.from_residual-in_err-lent.ensures.1)
    (record {
      reads = list_refused laws (λ (b : Bor (List ℕ)). b.now) count
          (bytes_end laws (λ a. let bad = c.in_err-lent.ensures.accepts a in cc)
          c.in_err-lent.ensures.leaves c.in_err-lent.ensures.refuses_by_unexpected_end);
      refused = ends_after_front count.gives.taken
          (inr (number_spelled laws count, number_below laws count))
          (λ a. let bad = c.in_err-lent.ensures.accepts a in cc)
          c.in_err-lent.ensures.refuses_by_unexpected_end;
    })

pub returns : goal.returns
returns g c =
    let laws = g.F.Flavor.lawful in
    record {
      reads =
          list_read laws (λ (b : Bor (List ℕ)). b.now) c.in_range-bytes.result c.in_ok-count.ensures.reads
          (rw c.in_range-bytes.ensures.same (bytes_read laws c.in_ok-lent.ensures.length
          c.in_range-bytes.ensures.range c.in_ok-lent.ensures.gives c.in_ok-lent.ensures.leaves));
      refused = tt;
    }
