-- The laws are lemmas of `Made`.
use Rattle.postcard_cobs.proofs.Made as laws
use Rattle.postcard_cobs.proofs.laws.bound_is_reached.Goals as goal

pub returns-clause-at_each_length : goal.returns-clause-at_each_length
returns-clause-at_each_length c = laws.bound_is_reached

pub returns-clause-without_zero : goal.returns-clause-without_zero
returns-clause-without_zero c = laws.reaches_bound
