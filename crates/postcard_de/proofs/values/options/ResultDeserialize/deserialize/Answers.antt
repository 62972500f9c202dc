use Rattle.std.proofs.Common.{◌≡◌, ◌≤◌, inl, inr, refl, rules, arith}
use Rattle.postcard_de_nodes.specs.ReadLemmas.{is_refusal, widened}
use Rattle.postcard_de.proofs.Enums.{index_refused, content_refused, variant_read}
use Rattle.postcard_de.proofs.Enums.{unknown_index, no_other, content_is_why, index_is_why}
use Rattle.postcard_de.proofs.values.options.ResultDeserialize.deserialize.Goals as goal

pub returns-in_err-value-in-0 : goal.returns-in_err-value-in-0
returns-in_err-value-in-0 g c =
    let laws = g.F.Flavor.lawful in
    let index = rw c.in-0.is at c.in_ok-index.ensures.reads in
    let e = c.in_err-value-in-0.field-0.0 in
    let is = c.from_residual-in_err-value-in-0.ensures.1 in
    record {
      reads = content_refused laws (λ x. inl) is index c.in_err-value-in-0.ensures;
      refused = rw (is_refusal c.from_residual-in_err-value-in-0.result e is)
          (inr (inl (content_is_why laws index c.in_err-value-in-0.ensures)));
    }

pub returns-in_err-value-in-1 : goal.returns-in_err-value-in-1
returns-in_err-value-in-1 g c =
    let laws = g.F.Flavor.lawful in
    let index = rw c.in-1.is at c.in_ok-index.ensures.reads in
    let e = c.in_err-value-in-1.field-0.0 in
    let is = c.from_residual-in_err-value-in-1.ensures.1 in
    record {
      reads = content_refused laws (λ x. inr) is index c.in_err-value-in-1.ensures;
      refused = rw (is_refusal c.from_residual-in_err-value-in-1.result e is)
          (inr (inr (content_is_why laws index c.in_err-value-in-1.ensures)));
    }

pub returns-in_ok-value-in-0 : goal.returns-in_ok-value-in-0
returns-in_ok-value-in-0 g c =
    record {
      reads =
          variant_read g.F.Flavor.lawful (λ t h. (0, t, refl, h))
          (rw c.in-0.is at c.in_ok-index.ensures.reads) c.in_ok-value-in-0.ensures;
      refused = tt;
    }

pub returns-in_ok-value-in-1 : goal.returns-in_ok-value-in-1
returns-in_ok-value-in-1 g c =
    record {
      reads =
          variant_read g.F.Flavor.lawful (λ t h. (1, t, refl, h))
          (rw c.in-1.is at c.in_ok-index.ensures.reads) c.in_ok-value-in-1.ensures;
      refused = tt;
    }

pub returns-in_err-index : goal.returns-in_err-index
returns-in_err-index g c =
    let is = c.from_residual.ensures.1 in
    record {
      reads = index_refused g.F.Flavor.lawful is c.in_err-index.ensures.reads;
      refused = rw (is_refusal c.from_residual.result c.in_err-index.field-0.0 is)
          (inl (widened (λ p n w. w) (λ p b. inl b) c.in_err-index.ensures.refused));
    }

pub returns-in_default : goal.returns-in_default
returns-in_default g c =
    let laws = g.F.Flavor.lawful in
    let i = c.in_ok-index.index in
    let isnt_0 : i ≡ 0 → ⊥ = search rules in
    let isnt_1 : i ≡ 1 → ⊥ = search rules in
    let many : 2 ≤ i = omega (arith, isnt_0, isnt_1) in
    record {
      reads = unknown_index laws tt (no_other _ _ i isnt_0 isnt_1) c.in_ok-index.ensures.reads;
      refused = inl (index_is_why laws 2 many c.in_ok-index.ensures.reads);
    }
