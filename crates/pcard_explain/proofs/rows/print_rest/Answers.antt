-- The row of the checksum and the row of the remaining bytes are printed, in this order.
use Rattle.std.proofs.Common.{◌≡◌, ℕ, ◌+◌, List, length, take, drop, sym, ap, subst, ◌∙◌, arith}
use Rattle.std.specs.Prelude.{Option, OnOk, option_map}
use Rattle.std.proofs.lemmas.List.{drop_min, take_min}
use Rattle.std.proofs.lemmas.Result.{on_ok_weaker}
use Rattle.pcard_print.specs.Lines.{offset}
use Rattle.pcard_explain.specs.Notes.{PrintsNote, PrintsNotes, after_notes, checksum, plain_trailer, rest_notes}
use Rattle.pcard_explain.specs.declared.rows.Trailer.{Trailer}
use Rattle.pcard_explain.proofs.RowLemmas.{after_at}
use Rattle.pcard_explain.proofs.rows.print_rest.Goals as goal

pub returns-clause-printed : goal.returns-clause-printed
returns-clause-printed g c =
    let layout = c.args.layout in
    let at = c.args.at in
    let bytes = c.args.bytes.now in
    let t = c.in-Some.trailer in
    let old = g.W.Write.contents c.args.output.now in
    let mid = g.W.Write.contents c.print_note.new.output in
    let new = g.W.Write.contents c.print_after-2.new.output in
    let sum : c.split_at.result.0.now ≡ take t.size bytes = c.split_at.ensures.front ∙ ap (λ (n : ℕ). take n bytes) c.min.ensures ∙ take_min t.size bytes in
    let rest : c.split_at.result.1.now ≡ drop t.size bytes = c.split_at.ensures.back ∙ ap (λ (n : ℕ). drop n bytes) c.min.ensures ∙ drop_min t.size bytes in
    let counted : offset c.saturating_add-after.result ≡ offset (at + length (take t.size bytes)) = omega (arith, c.saturating_add-after.ensures, ap length sum) in
    subst (λ (o : Option Trailer). OnOk c.print_after-2.result (PrintsNotes layout (rest_notes (option_map plain_trailer o) at bytes) old new)) (sym c.in-Some.is)
    (on_ok_weaker c.print_after-2.result
    (λ h. (
      mid,
      subst (λ (b : List ℕ). PrintsNote layout at b (checksum t.name.now) old mid) sum c.in_ok-print_note.ensures.printed,
      after_at layout c.saturating_add-after.result (at + length (take t.size bytes)) (drop t.size bytes) mid new counted
          (subst (λ (b : List ℕ). PrintsNotes layout (after_notes c.saturating_add-after.result b) mid new) rest h),
    ))
    c.print_after-2.ensures.printed)
