use Rattle.postcard_schema_message.proofs.Rows.{one_view}
use Rattle.postcard_schema_message.proofs.laws.one_schema.Goals as goal

pub returns : goal.returns
returns c v w e = one_view v w e
