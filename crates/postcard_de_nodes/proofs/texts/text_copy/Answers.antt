use Rattle.std.proofs.Common.{String, Global, string_bytes, ◌∙◌}
use Rattle.postcard_shape.specs.Shape.{memory}
use Rattle.postcard_de_nodes.specs.NodeLemmas.{node_refused, node_passes_on}
use Rattle.postcard_de_nodes.proofs.TextLemmas.{text_excludes, length_refused, text_ends, text_bad}
use Rattle.postcard_de_nodes.proofs.TextLemmas.{text_full, text_read}
use Rattle.postcard_de_nodes.proofs.texts.text_copy.Goals as goal

pub returns-in_err-count : goal.returns-in_err-count
returns-in_err-count g c =
    node_passes_on g.F.Flavor c.from_residual.ensures.1 (text_excludes memory)
    (length_refused g.F.Flavor.lawful c.in_err-count.ensures.refused) c.in_err-count.ensures.reads.leaves

pub returns-in_err-lent : goal.returns-in_err-lent
returns-in_err-lent g c =
    let laws = g.F.Flavor.lawful in
    let lent = c.try_take_n_temp.follows.holds-at-none in
    node_passes_on g.F.Flavor c.from_residual-in_err-lent.ensures.1 (text_excludes memory)
    (text_ends laws c.in_ok-count.ensures.reads
    (λ a. let bad = c.in_err-lent.ensures.accepts a in cc) c.in_err-lent.ensures.refuses_by_unexpected_end)
    (laws.joins _ _ _ c.in_ok-count.ensures.reads.leaves lent.1)

pub returns-then-not-is_utf8 : goal.returns-then-not-is_utf8
returns-then-not-is_utf8 g c =
    let laws = g.F.Flavor.lawful in
    let lent = c.try_take_n_temp.follows.holds-at-none in
    let gives = rw c.in_ok-lent.was at lent.0 in
    node_refused g.F.Flavor (text_excludes memory)
    (text_bad laws c.in_ok-count.ensures.reads c.in_ok-lent.ensures.length gives
    (λ u. let is = c.is_utf8.ensures.1 u in let not = c.if-not-is_utf8.true in cc (is, not)))
    (laws.joins _ _ _ c.in_ok-count.ensures.reads.leaves lent.1)

pub returns-in-Ok : goal.returns-in-Ok
returns-in-Ok g c =
    let lent = c.try_take_n_temp.follows.holds-at-none in
    let gives = rw c.in_ok-lent.was at lent.0 in
    record {
      reads =
          text_read g.F.Flavor.lawful c.in_ok-count.ensures.reads c.in_ok-lent.ensures.length gives
          (λ (b : String Global). string_bytes b) c.in-Ok.copy
          (c.in-Ok.ensures.ok ∙ c.from_utf8_unchecked.ensures)
          (c.is_utf8.ensures.0 c.if-not-is_utf8.false) lent.1;
      refused = tt;
    }

pub returns-in-Err : goal.returns-in-Err
returns-in-Err g c =
    let laws = g.F.Flavor.lawful in
    let lent = c.try_take_n_temp.follows.holds-at-none in
    let gives = rw c.in_ok-lent.was at lent.0 in
    node_refused g.F.Flavor (text_excludes memory)
    (text_full laws c.in_ok-count.ensures.reads c.in_ok-lent.ensures.length gives
    (c.is_utf8.ensures.0 c.if-not-is_utf8.false) tt)
    (laws.joins _ _ _ c.in_ok-count.ensures.reads.leaves lent.1)
