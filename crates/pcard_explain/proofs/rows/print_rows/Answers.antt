-- The rows of the value's lines, and then those after the value, are the rows of the explanation.
use Rattle.std.proofs.Common.{ℕ, [], length, subst}
use Rattle.std.specs.Prelude.{option_map}
use Rattle.std.proofs.lemmas.Result.{on_ok_weaker}
use Rattle.postcard_explain.specs.Explained.{bytes_of}
use Rattle.pcard_explain.specs.Layouts.{rows_layout}
use Rattle.pcard_explain.specs.Notes.{PrintsNotes, plain_trailer, rest_notes}
use Rattle.pcard_explain.specs.Rows.{PrintsLines}
use Rattle.pcard_explain.specs.declared.layout.Layout.{Layout}
use Rattle.pcard_explain.proofs.RowLemmas.{rest_at}
use Rattle.pcard_explain.proofs.rows.print_rows.Goals as goal

pub returns-clause-printed : goal.returns-clause-printed
returns-clause-printed g c =
    let layout = rows_layout c.args.notation c.args.all c.args.lines.now in
    let trailer = option_map plain_trailer c.args.trailer in
    let value = c.split_after.result.0.now in
    let after = c.split_after.result.1.now in
    let old = g.W.Write.contents c.args.output.now in
    let mid = g.W.Write.contents c.print_lines.new.output in
    let new = g.W.Write.contents c.print_rest.new.output in
    on_ok_weaker c.print_rest.result
    (λ h. record {
      value = value;
      after = after;
      split = c.split_after.ensures;
      mid = mid;
      rows = subst (λ (l : Layout). PrintsLines l 0 [] value old mid) c.layout_of-layout.ensures c.in_ok-at.ensures.printed;
      rest = rest_at layout trailer (length (bytes_of value)) after mid new
          (subst (λ (n : ℕ). PrintsNotes layout (rest_notes trailer n after) mid new) c.in_ok-at.ensures.counted
          (subst (λ (l : Layout). PrintsNotes l (rest_notes trailer c.in_ok-at.at after) mid new) c.layout_of-layout.ensures h));
    })
    c.print_rest.ensures.printed
