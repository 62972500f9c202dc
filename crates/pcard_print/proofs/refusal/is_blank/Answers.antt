-- The number of a part is printed as at least one digit.
use Rattle.pcard_print.proofs.PathLemmas.{number_shown}
use Rattle.pcard_print.proofs.refusal.is_blank.Goals as goal

pub returns-in-Part-clause-shown : goal.returns-in-Part-clause-shown
returns-in-Part-clause-shown c = λ _. rw c.in-Part.is (number_shown c.in-Part._number)
