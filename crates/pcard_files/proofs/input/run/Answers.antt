-- The call reads the opened file.
use Rattle.std.proofs.Common.{inl, inr, refl}
use Rattle.pcard_files.proofs.input.run.Goals as goal

pub returns-in-Ok-clause-answers : goal.returns-in-Ok-clause-answers
returns-in-Ok-clause-answers g c = inr (inl (record {
  file = c.in-Some.name.now;
  opened = c.in-Ok.opened;
  ended = c.run-in-Ok.new.input;
  names = c.in-Some.ensures.found;
  has = c.in-Ok.ensures.given;
  answers = c.run-in-Ok.ensures.answers;
  unread = refl;
}))
