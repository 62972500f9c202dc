use Rattle.pcard_impl.proofs.Same.{same_marked}
use Rattle.pcard_impl.proofs.command.file_with_impls.Goals as goal

pub returns-in-Ok-impl_file : goal.returns-in-Ok-impl_file
returns-in-Ok-impl_file c = same_marked _ _ _ _ _ c.in-Ok-impl_file.ensures.marked c.in-Ok.ensures.cases.0
