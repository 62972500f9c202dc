-- If `take` returns `false`, the next sign of the text is not `<`.
use Rattle.std.specs.Prelude.{refl}
use Rattle.postcard_schema_text.proofs.types.open_angle.Goals as goal

pub returns-clause-none : goal.returns-clause-none
returns-clause-none c = c.take.ensures.none c.if-take.false refl
