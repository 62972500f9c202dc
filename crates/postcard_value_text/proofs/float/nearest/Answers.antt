-- A word that isn't parsed as a float denotes none.
use Rattle.postcard_value_text.proofs.FloatTexts.{float_all, number_utf8}
use Rattle.postcard_value_text.specs.Floats.{format_of}
use Rattle.postcard_value_text.proofs.float.nearest.Goals as goal

pub returns-in_default-clause-none : goal.returns-in_default-clause-none
returns-in_default-clause-none c = λ bits (x, reads, is). c.in_default.ensures.cases.0 (number_utf8 c.args.word.now (float_all (format_of c.args.float) x c.args.word.now reads).1)
