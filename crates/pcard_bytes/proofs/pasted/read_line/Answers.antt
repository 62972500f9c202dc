-- A line is wrong where the first word of its column is wrong.
use Rattle.pcard_bytes.proofs.PastedLemmas.{line_refused}
use Rattle.pcard_bytes.proofs.pasted.read_line.Goals as goal

pub returns-clause-refused : goal.returns-clause-refused
returns-clause-refused c =
    line_refused c.args.dump c.args.line.now c.args.text.now _ c.args.place _ c.read_words.result c.column-start.ensures.start c.column-start.ensures.column c.read_words.ensures.refused
