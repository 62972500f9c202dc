use Rattle.postcard_schema.proofs.Typed.{typed}
use Rattle.postcard_schema_message.proofs.laws.view_has_type.Goals as goal

pub returns : goal.returns
returns c s = typed s
