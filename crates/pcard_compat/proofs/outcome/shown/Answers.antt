-- With JSON, an error is that of `json_line`.
use Rattle.pcard_compat.proofs.outcome.shown.Goals as goal

-- Only values as JSON may have none.
pub returns-then-json-clause-refused : goal.returns-then-json-clause-refused
returns-then-json-clause-refused c = rw c.if-json.true c.json_line.ensures.refused
