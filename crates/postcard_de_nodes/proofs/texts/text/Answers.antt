use Rattle.std.proofs.Common.{ℕ, List, Bor}
use Rattle.postcard_shape.specs.Shape.{never}
use Rattle.postcard_de_nodes.specs.NodeLemmas.{node_refused, node_passes_on}
use Rattle.postcard_de_nodes.proofs.TextLemmas.{text_excludes, length_refused, text_ends, text_bad}
use Rattle.postcard_de_nodes.proofs.TextLemmas.{text_read}
use Rattle.postcard_de_nodes.proofs.texts.text.Goals as goal

pub returns-in_err-count : goal.returns-in_err-count
returns-in_err-count g c =
    node_passes_on g.F.Flavor c.from_residual.ensures.1 (text_excludes never)
    (length_refused g.F.Flavor.lawful c.in_err-count.ensures.refused) c.in_err-count.ensures.reads.leaves

pub returns-in_err-bytes : goal.returns-in_err-bytes
returns-in_err-bytes g c =
    let laws = g.F.Flavor.lawful in
    node_passes_on g.F.Flavor c.from_residual-in_err-bytes.ensures.1 (text_excludes never)
    (text_ends laws c.in_ok-count.ensures.reads
    (λ a. let bad = c.in_err-bytes.ensures.accepts a in cc) c.in_err-bytes.ensures.refuses_by_unexpected_end)
    (laws.joins _ _ _ c.in_ok-count.ensures.reads.leaves c.in_err-bytes.ensures.leaves)

pub returns-then-not-is_utf8 : goal.returns-then-not-is_utf8
returns-then-not-is_utf8 g c =
    let laws = g.F.Flavor.lawful in
    node_refused g.F.Flavor (text_excludes never)
    (text_bad laws c.in_ok-count.ensures.reads c.in_ok-bytes.ensures.length
    c.in_ok-bytes.ensures.gives
    (λ u. let is = c.is_utf8.ensures.1 u in let not = c.if-not-is_utf8.true in cc (is, not)))
    (laws.joins _ _ _ c.in_ok-count.ensures.reads.leaves c.in_ok-bytes.ensures.leaves)

pub returns : goal.returns
returns g c =
    record {
      reads =
          text_read g.F.Flavor.lawful c.in_ok-count.ensures.reads c.in_ok-bytes.ensures.length
          c.in_ok-bytes.ensures.gives (λ (b : Bor (List ℕ)). b.now) c.from_utf8_unchecked.result
          c.from_utf8_unchecked.ensures (c.is_utf8.ensures.0 c.if-not-is_utf8.false)
          c.in_ok-bytes.ensures.leaves;
      refused = tt;
    }
