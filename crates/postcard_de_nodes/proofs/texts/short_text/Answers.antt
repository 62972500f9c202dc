use Rattle.std.proofs.Common.{◌≡◌, ℕ, ◌≤◌, ◌<◌, ◌^◌, inl, List, length, refl, ◌∙◌, rules}
use Rattle.std.specs.Prelude.{IsUtf8}
use Rattle.postcard_shape.specs.Shape.{never}
use Rattle.postcard_shape.specs.Leaves.{short_text_inside}
use Rattle.postcard_de_nodes.specs.ReadLemmas.{widened}
use Rattle.postcard_de_nodes.proofs.TextLemmas.{text_refused, length_refused, text_ends, text_bad}
use Rattle.postcard_de_nodes.proofs.TextLemmas.{text_read}
use Rattle.postcard_de_nodes.specs.NumberLemmas.{number_below}
use Rattle.postcard_de_nodes.specs.SeenLemmas.{seen_as, unfit, refused_too, passed_on}
use Rattle.postcard_de_nodes.proofs.ShortTextLemmas.{short_fits, long_unfit, text_long}
use Rattle.postcard_de_nodes.proofs.texts.short_text.Goals as goal

pub returns-in_err-count : goal.returns-in_err-count
returns-in_err-count g c =
    let laws = g.F.Flavor.lawful in
    record {
      reads =
          passed_on (short_text_inside g.row.CAP) (λ e h. h) c.from_residual.ensures.1
          (text_refused laws {V = ℕ} {value = λ t v. ⊥} {G = never}
          (length_refused laws c.in_err-count.ensures.refused) c.in_err-count.ensures.reads.leaves);
      refused = search rules;
    }

pub returns-in_err-bytes : goal.returns-in_err-bytes
returns-in_err-bytes g c =
    let laws = g.F.Flavor.lawful in
    let lent = c.try_take_n_temp.follows.holds-at-none in
    record {
      reads =
          passed_on (short_text_inside g.row.CAP) (λ e h. h) c.from_residual-in_err-bytes.ensures.1
          (text_refused laws {V = ℕ} {value = λ t v. ⊥} {G = never}
          (text_ends laws c.in_ok-count.ensures.reads
          (λ a. let bad = c.in_err-bytes.ensures.accepts a in cc) c.in_err-bytes.ensures.refuses_by_unexpected_end)
          (laws.joins _ _ _ c.in_ok-count.ensures.reads.leaves lent.1));
      refused = search rules;
    }

pub returns-then-not-is_utf8 : goal.returns-then-not-is_utf8
returns-then-not-is_utf8 g c =
    let laws = g.F.Flavor.lawful in
    let lent = c.try_take_n_temp.follows.holds-at-none in
    let gives = rw c.in_ok-bytes.was at lent.0 in
    let none : IsUtf8 c.in_ok-bytes.bytes.now → ⊥ =
    λ u. let is = c.is_utf8.ensures.1 u in let not = c.if-not-is_utf8.true in cc (is, not) in
    record {
      reads =
          refused_too (short_text_inside g.row.CAP) (λ e h. h)
          (text_refused laws {V = ℕ} {value = λ t v. ⊥} {G = never}
          (text_bad laws c.in_ok-count.ensures.reads c.in_ok-bytes.ensures.length gives none)
          (laws.joins _ _ _ c.in_ok-count.ensures.reads.leaves lent.1));
      refused =
          widened (λ p n w. w) (λ p b. inl b)
          (text_bad laws c.in_ok-count.ensures.reads c.in_ok-bytes.ensures.length gives {G = ⊥} none);
    }

pub returns-in-Ok : goal.returns-in-Ok
returns-in-Ok g c =
    let laws = g.F.Flavor.lawful in
    let lent = c.try_take_n_temp.follows.holds-at-none in
    let gives = rw c.in_ok-bytes.was at lent.0 in
    let u = c.in_ok-bytes.bytes.now in
    let fits : length c.from_utf8_unchecked.result.now ≤ g.row.CAP = search rules in
    let few : length u ≤ g.row.CAP = rw c.from_utf8_unchecked.ensures at fits in
    let utf8 : IsUtf8 u = c.is_utf8.ensures.0 c.if-not-is_utf8.false in
    let low : length u < 2 ^ 64 =
    rw c.in_ok-bytes.ensures.length (number_below laws c.in_ok-count.ensures.reads) in
    let e : c.in-Ok.short.bytes ≡ u = c.in-Ok.ensures.ok ∙ c.from_utf8_unchecked.ensures in
    record {
      reads =
          seen_as (short_text_inside g.row.CAP) (short_fits g.row.CAP u c.in-Ok.short.bytes few utf8 low e)
          (text_read laws c.in_ok-count.ensures.reads c.in_ok-bytes.ensures.length gives {G = never}
          (λ (v : List ℕ). v) u refl utf8 lent.1);
      refused = tt;
    }

pub returns-in-Err : goal.returns-in-Err
returns-in-Err g c =
    let laws = g.F.Flavor.lawful in
    let lent = c.try_take_n_temp.follows.holds-at-none in
    let gives = rw c.in_ok-bytes.was at lent.0 in
    let u = c.in_ok-bytes.bytes.now in
    let same = c.from_utf8_unchecked.ensures in
    let none : length c.from_utf8_unchecked.result.now ≤ g.row.CAP → ⊥ = search rules in
    let none_of_u : length u ≤ g.row.CAP → ⊥ = rw same at none in
    let many : g.row.CAP < length c.from_utf8_unchecked.result.now = search rules in
    let utf8 : IsUtf8 u = c.is_utf8.ensures.0 c.if-not-is_utf8.false in
    record {
      reads =
          unfit tt (short_text_inside g.row.CAP) (long_unfit g.row.CAP u none_of_u)
          (text_read laws c.in_ok-count.ensures.reads c.in_ok-bytes.ensures.length gives {G = never}
          (λ (v : List ℕ). v) u refl utf8 lent.1);
      refused =
          text_long laws c.in_ok-count.ensures.reads c.in_ok-bytes.ensures.length gives utf8
          (rw same at many);
    }
