-- The row of a line, as text or as JSON, is that of the definition.
use Rattle.std.proofs.Common.{sym, ap, subst, ◌∙◌, string_bytes}
use Rattle.std.specs.Prelude.{codes}
use Rattle.std.proofs.Output.{if_some_weaken}
use Rattle.pcard_explain.specs.{Appends}
use Rattle.pcard_print.specs.Lines.{field_member}
use Rattle.pcard_print.specs.declared.notation.Notation.{Notation}
use Rattle.postcard_schema.specs.Paths.{path_text}
use Rattle.pcard_explain.specs.Layouts.{PrintsRow}
use Rattle.pcard_explain.specs.Rows.{PrintsLineIn}
use Rattle.pcard_explain.specs.Told.{object_text, told_text}
use Rattle.pcard_explain.proofs.rows.print_line.Goals as goal

pub returns-in_ok-print_row-in-Text-clause-printed : goal.returns-in_ok-print_row-in-Text-clause-printed
returns-in_ok-print_row-in-Text-clause-printed g c =
    let line = c.args.line.now in
    let old = g.W.Write.contents c.args.output.now in
    let new = g.W.Write.contents c.print_row.new.output in
    subst (λ (n : Notation). PrintsLineIn n c.args.layout c.args.at (path_text c.args.path.now.steps.items) line old new) (sym c.in-Text.is)
    (if_some_weaken (told_text line) _ _
    (λ text is. subst (λ t. PrintsRow c.args.layout c.args.at line.depth line.bytes.now t old new) (c.deref.ensures ∙ is) c.in_ok-print_row-in-Text.ensures)
    c.in_ok-text-in-Text.ensures.ok)

pub returns-in_ok-print_object-in-Json-clause-printed : goal.returns-in_ok-print_object-in-Json-clause-printed
returns-in_ok-print_object-in-Json-clause-printed g c =
    let line = c.args.line.now in
    let old = g.W.Write.contents c.args.output.now in
    let new = g.W.Write.contents c.print_object.new.output in
    let members = string_bytes c.in_ok-members-in-Json.members in
    let field = c.deref-in-Json-2.ensures ∙ c.in_ok-field-in-Json.ensures ∙ ap field_member (c.deref-in-Json.ensures ∙ c.in_ok-path-in-Json.ensures.ok) in
    subst (λ (n : Notation). PrintsLineIn n c.args.layout c.args.at (path_text c.args.path.now.steps.items) line old new) (sym c.in-Json.is) (
      members,
      c.in_ok-members-in-Json.ensures,
      subst (λ f. Appends old new (object_text (codes "at") c.args.at line.bytes.now f members)) field
          (subst (λ m. Appends old new (object_text (codes "at") c.args.at line.bytes.now c.deref-in-Json-2.result.now m)) c.deref-in-Json-3.ensures
          c.in_ok-print_object-in-Json.ensures),
    )
