-- The texts as which problems are printed.
use Rattle.std.specs.Prelude.{ℕ, List, codes}
use Rattle.postcard_schema_message.specs.declared.error.Problem.{Problem}
use Rattle.postcard_schema_message.specs.declared.error.Problem.TheVariants.{Malformed, TooDeep, ElementWithoutBytes, OutOfMemory}

-- The text of a problem, in ASCII.
abbrev pub problem_text : Problem → List ℕ
problem_text Malformed = codes "these nodes are no type"
problem_text TooDeep = codes "nested too deeply"
problem_text ElementWithoutBytes = codes "elements of this type have no bytes"
problem_text OutOfMemory = codes "out of memory"
