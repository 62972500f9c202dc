-- The names of a type expression differ, and what is done in its format is what the call does.
use Rattle.std.proofs.Common.{map, string_bytes}
use Rattle.postcard_value_text.proofs.Distinct.{expression_distinct}
use Rattle.pcard_calls.proofs.EndLemmas.{typed_ends}
use Rattle.pcard_calls.proofs.program.answer_typed.Goals as goal

pub perform-requires : goal.perform-requires
perform-requires g c = expression_distinct _ _ c.in-Ok.ensures.format.expression

pub returns-in-Ok : goal.returns-in-Ok
returns-in-Ok g c = (
  c.perform.result,
  g.W.Write.contents c.perform.new.output,
  typed_ends _ _ _ _ (map string_bytes c.args.call.now.operands.now) (g.R.Read.remaining c.args.input.now) (g.R.Read.remaining c.perform.new.input)
      (g.W.Write.contents c.args.output.now) (g.W.Write.contents c.perform.new.output) c.perform.result c.in-Ok.format (rw c.first.ensures at c.in-Ok.ensures.format) c.perform.ensures.printed c.perform.ensures.refused,
  c.report.ensures,
)
