-- The expression that is parsed is the argument itself, or that of the type in a file.
use Rattle.std.proofs.Common.{inl, inr, refl}
use Rattle.pcard_files.specs.TypeName.{bytes_of}
use Rattle.pcard_compat.proofs.type_word.type_of_word.Goals as goal

pub returns-in-Ok-clause-found : goal.returns-in-Ok-clause-found
returns-in-Ok-clause-found g c = (c.args.word.now, inl (c.in_default.ensures.none, refl), c.in-Ok.ensures.spelled)

pub returns-in-Err-clause-refused : goal.returns-in-Err-clause-refused
returns-in-Err-clause-refused g c = (c.args.word.now, inl (c.in_default.ensures.none, refl), c.in-Err.ensures.refused)

pub returns-in-Ok-schema_of-clause-found : goal.returns-in-Ok-schema_of-clause-found
returns-in-Ok-schema_of-clause-found g c = (
  c.as_str.result.now,
  inr (c.in-Some.name.file.now, bytes_of c.in-Some.name.name, c.in-Some.ensures.found, rw c.as_str.ensures.value c.in-Ok-expression.ensures.found),
  c.in-Ok-schema_of.ensures.spelled,
)

pub returns-clause-refused : goal.returns-clause-refused
returns-clause-refused g c = (
  c.as_str.result.now,
  inr (c.in-Some.name.file.now, bytes_of c.in-Some.name.name, c.in-Some.ensures.found, rw c.as_str.ensures.value c.in-Ok-expression.ensures.found),
  c.in-Err-schema_of.ensures.refused,
)
