-- The rows of the lines so far are printed, and one turn adds the row of the next line.
use Rattle.std.proofs.Common.{◌≡◌, ℕ, ◌+◌, ◌<◌, List, [], ◌∷◌, ◌++◌, length, take, sym, ap, subst, ◌∙◌, arith}
use Rattle.std.proofs.lemmas.List.{take_more}
use Rattle.postcard_schema.specs.Paths.{PlainStep, plain_text}
use Rattle.postcard_explain.specs.Explained.{bytes_of}
use Rattle.postcard_explain.specs.declared.line.Line.{Line}
use Rattle.pcard_print.specs.Lines.{offset}
use Rattle.pcard_explain.specs.Places.{IsOn, path_after}
use Rattle.pcard_explain.specs.Rows.{PrintsLine}
use Rattle.pcard_explain.proofs.LayoutLemmas.{bytes_more}
use Rattle.pcard_explain.proofs.RowLemmas.{line_at, lines_more, seen_after, seen_more}
use Rattle.pcard_explain.proofs.rows.print_lines.Goals as goal

pub loop-line-preserved : goal.loop-line-preserved
loop-line-preserved g c =
    let xs = c.args.lines.now in
    let i = c.loop-line.line-index in
    let x = c.line-item.result in
    let layout = c.args.layout in
    let old = g.W.Write.contents c.loop-line.output in
    let new = g.W.Write.contents c.print_line.new.output in
    let so = c.loop-line.invariant in
    let low : i < length xs = omega arith in
    let more : take (i + 1) xs ≡ take i xs ++ x ∷ [] = take_more xs i x low ∙ ap (λ y. take i xs ++ y ∷ []) (sym c.line-item.is) in
    let seen = seen_after [] (take i xs) in
    let n = length (bytes_of (take i xs)) in
    let zero : n ≡ 0 + n = omega arith in
    let on : IsOn c.reach.new.self seen x = c.in_ok-reach.ensures seen so.place in
    let row : PrintsLine layout n (plain_text (path_after seen x)) x old new =
    line_at layout n (plain_text (path_after seen x)) x old new
    (subst (λ (p : List PlainStep). PrintsLine layout (offset n) (plain_text p) x old new) on.path (rw so.count at c.in_ok-print_line.ensures.printed)) in
    let seen_is : seen_after [] (take (i + 1) xs) ≡ x ∷ seen = ap (λ (ys : List Line). seen_after [] ys) more ∙ seen_more [] (take i xs) x in
    record {
      rows =
          rw more
          (lines_more layout 0 [] (take i xs) x _ old new so.rows (subst (λ (k : ℕ). PrintsLine layout k (plain_text (path_after seen x)) x old new) zero row));
      count = rw (more, bytes_more (take i xs) x) (omega (arith, so.count, c.saturating_add-at.ensures));
      place = rw seen_is (c.in_ok-enter.ensures seen on);
    }
