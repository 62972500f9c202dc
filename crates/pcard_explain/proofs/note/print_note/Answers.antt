-- The row of text is that of the note.
use Rattle.std.proofs.Common.{sym, subst, ◌∙◌}
use Rattle.pcard_print.specs.declared.notation.Notation.{Notation}
use Rattle.pcard_explain.specs.Layouts.{PrintsRow}
use Rattle.pcard_explain.specs.Notes.{PrintsNoteIn, plain_note}
use Rattle.pcard_explain.proofs.note.print_note.Goals as goal

pub returns-in_ok-print_row-in-Text-clause-printed : goal.returns-in_ok-print_row-in-Text-clause-printed
returns-in_ok-print_row-in-Text-clause-printed g c =
    let old = g.W.Write.contents c.args.output.now in
    let new = g.W.Write.contents c.print_row.new.output in
    subst (λ (n : Notation). PrintsNoteIn n c.args.layout c.args.at c.args.bytes.now (plain_note c.args.note) old new) (sym c.in-Text.is)
    (subst (λ t. PrintsRow c.args.layout c.args.at 0 c.args.bytes.now t old new) (c.deref.ensures ∙ c.in_ok-text-in-Text.ensures) c.in_ok-print_row-in-Text.ensures)
