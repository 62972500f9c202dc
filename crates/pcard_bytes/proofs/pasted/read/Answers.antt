-- Each turn reads one line. The first line that is wrong is where the text is wrong.
use Rattle.std.proofs.Common.{◌==◌, sym, ◌∙◌}
use Rattle.std.proofs.lemmas.Result.{err_from_is_err_and}
use Rattle.pcard_bytes.specs.Hexadecimal.{IsLine, IsWrongLine, is_dump}
use Rattle.pcard_bytes.proofs.PastedLemmas.{text_one, text_refused, text_refused_last, up_to-step, up_to-end}
use Rattle.pcard_bytes.proofs.pasted.read.Goals as goal

pub returns-in_err-read_line-clause-refused : goal.returns-in_err-read_line-clause-refused
returns-in_err-read_line-clause-refused c =
    let p = err_from_is_err_and c.from_residual.result c.from_residual.ensures.1 in
    let refused = rw c.is_dump-dump.ensures at c.in_err-read_line.ensures.refused in
    rw (p.1, p.2)
    (text_refused c.args.text.now _ _ _ _ c.lines.invariant (sym c.end_of_line.ensures ∙ c.in-Some.is) refused)

pub lines-preserved : goal.lines-preserved
lines-preserved c =
    let value = rw c.is_dump-dump.ensures at c.in_ok-read_line.ensures.value in
    up_to-step (IsLine (is_dump c.args.text.now)) (IsWrongLine (is_dump c.args.text.now)) (λ b. b == 10) _ _ _ _ _ _ _ c.lines.invariant (sym c.end_of_line.ensures ∙ c.in-Some.is) value
    c.deref.ensures.value c.in_ok-extend_from_slice.ensures.items

pub returns-in_err-read_line-2-clause-refused : goal.returns-in_err-read_line-2-clause-refused
returns-in_err-read_line-2-clause-refused c =
    let p = err_from_is_err_and c.from_residual-in_err-read_line-2.result c.from_residual-in_err-read_line-2.ensures.1 in
    let refused = rw c.is_dump-dump.ensures at c.in_err-read_line-2.ensures.refused in
    rw (p.1, p.2)
    (text_refused_last c.args.text.now _ _ _ c.lines.invariant (sym c.end_of_line.ensures ∙ c.in_default.is) refused)

pub returns-clause-value : goal.returns-clause-value
returns-clause-value c =
    let value = rw c.is_dump-dump.ensures at c.in_ok-read_line-2.ensures.value in
    up_to-end (IsLine (is_dump c.args.text.now)) (IsWrongLine (is_dump c.args.text.now)) (λ b. b == 10) _ _ _ _ _ _ c.lines.invariant (sym c.end_of_line.ensures ∙ c.in_default.is) value
    c.deref-2.ensures.value c.in_ok-extend_from_slice-2.ensures.items

pub returns-clause-only : goal.returns-clause-only
returns-clause-only c = λ other is. text_one c.args.text.now other c.extend_from_slice-2.new.self.items is (returns-clause-value c)
