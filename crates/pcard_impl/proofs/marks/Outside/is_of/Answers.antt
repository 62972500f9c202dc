use Rattle.pcard_impl.proofs.Same.{still_outside}
use Rattle.pcard_impl.proofs.marks.Outside.is_of.Goals as goal

pub returns-in-Ok : goal.returns-in-Ok
returns-in-Ok c = λ yes. still_outside _ _ _ _ _ _ _ c.in-Ok.ensures.outside (c.is_same.ensures.before yes) (c.is_same.ensures.after yes)
