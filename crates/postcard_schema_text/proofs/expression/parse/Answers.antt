-- What `parse` returns is bounded, since each type of the grammar is (`Bounded`).
use Rattle.postcard_schema_text.proofs.Bounded.{type_bounded}
use Rattle.postcard_schema_text.proofs.expression.parse.Goals as goal

pub returns-in-Ok-clause-elements_have_bytes : goal.returns-in-Ok-clause-elements_have_bytes
returns-in-Ok-clause-elements_have_bytes c = (type_bounded 64 c.in-Ok.schema c.in-Ok.ensures.spelled.0 c.in-Ok.ensures.spelled.2).full

pub returns-in-Ok-clause-deep : goal.returns-in-Ok-clause-deep
returns-in-Ok-clause-deep c = (type_bounded 64 c.in-Ok.schema c.in-Ok.ensures.spelled.0 c.in-Ok.ensures.spelled.2).low
