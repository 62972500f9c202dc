-- A word that is refused denotes no number below 2^128.
use Rattle.postcard_value_text.proofs.Numbers.{no_literal}
use Rattle.postcard_value_text.proofs.number.magnitude.Goals as goal

pub returns-in-Err-clause-none : goal.returns-in-Err-clause-none
returns-in-Err-clause-none c = no_literal c.in-Err.field-0 c.args.word.now c.in-Err.ensures.refused
