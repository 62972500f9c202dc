-- The clause is that of `fill_slice`.
use Rattle.postcard.proofs.experimental.max_size.fill_max_size.Goals as goal

pub returns-clause-filled : goal.returns-clause-filled
returns-clause-filled g c = c.fill_slice.ensures
