-- A line of `xxd` has its digits after the offset, up to two blanks.
use Rattle.std.proofs.Common.{sym, ◌∙◌}
use Rattle.pcard_bytes.proofs.PastedLemmas.{behind_offset, xxd-start, xxd-column}
use Rattle.pcard_bytes.proofs.pasted.column.Goals as goal

pub returns-then-is_of_xxd-clause-start : goal.returns-then-is_of_xxd-clause-start
returns-then-is_of_xxd-clause-start c =
    xxd-start c.args.line.now _ (sym c.is_of_xxd.ensures.is ∙ c.if-is_of_xxd.true) (behind_offset c.args.line.now _ c.trim_ascii_start-column.ensures.value)

pub returns-then-is_of_xxd-clause-column : goal.returns-then-is_of_xxd-clause-column
returns-then-is_of_xxd-clause-column c =
    c.up_to.ensures.before
    ∙ xxd-column c.args.dump c.args.line.now _ (sym c.is_of_xxd.ensures.is ∙ c.if-is_of_xxd.true) (behind_offset c.args.line.now _ c.trim_ascii_start-column.ensures.value)
