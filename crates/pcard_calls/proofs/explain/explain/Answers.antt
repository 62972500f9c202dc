-- The rows are those of the first message or frame, whose answer says whether it is refused.
use Rattle.pcard_print.specs.Answers.{why}
use Rattle.pcard_calls.proofs.ExplainLemmas.{framed_rows, data_rows}
use Rattle.pcard_calls.proofs.explain.explain.Goals as goal
use Rattle.pcard_calls.proofs.explain.explain.Goals.{then-format+in_ok-print_frame, else-format+in_ok-print_data}

pub returns-in-Value-clause-printed : goal.returns-in-Value-clause-printed
returns-in-Value-clause-printed g c = record {
  value_of = c.in-Value.field-0;
  rest = c.in-Value.field-1.now;
  after = c.in_ok-answer.field-0-1.now;
  is = rw c.in-Value.is at c.in_ok-answer.ensures;
  rows = elim c.if-format.branch [
    | then-format+in_ok-print_frame w ↦ rw w.output-is (framed_rows c.args.format.now c.args.all c.args.bytes.now _ _ w.if-format.true w.in_ok-print_frame.ensures.printed)
    | else-format+in_ok-print_data w ↦ rw w.output-is (data_rows c.args.format.now c.args.all c.args.bytes.now _ _ w.if-format.false w.in_ok-print_data.ensures.printed)
  ];
}

pub returns-clause-refused : goal.returns-clause-refused
returns-clause-refused g c = record {
  mid = g.W.Write.contents c.if-format.output;
  rows = elim c.if-format.branch [
    | then-format+in_ok-print_frame w ↦ rw w.output-is (framed_rows c.args.format.now c.args.all c.args.bytes.now _ _ w.if-format.true w.in_ok-print_frame.ensures.printed)
    | else-format+in_ok-print_data w ↦ rw w.output-is (data_rows c.args.format.now c.args.all c.args.bytes.now _ _ w.if-format.false w.in_ok-print_data.ensures.printed)
  ];
  refusal = record {
    why = why c.in-Refused.refusal;
    after = c.in_ok-answer.field-0-1.now;
    is = rw c.in-Refused.is at c.in_ok-answer.ensures;
    printed = c.in_ok-print_refusal-in-Refused.ensures.printed;
  };
}
