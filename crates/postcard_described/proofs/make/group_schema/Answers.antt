-- If there is a name for each part, the struct has these names.
use Rattle.std.proofs.Common.{refl}
use Rattle.postcard_described.proofs.make.group_schema.Goals as goal

pub returns-clause-named : goal.returns-clause-named
returns-clause-named c = λ some same. (c.in_ok-with_names.field-0, refl, c.in_ok-with_names.ensures.named same)
