use Rattle.std.proofs.Common.{inl, inr, refl, ap, map, string_bytes, Global}
use Rattle.std.specs.Prelude.{slice_set}
use Rattle.std.proofs.lemmas.List.{map-set}
use Rattle.pcard_files.specs.TypeName.{bytes_of}
use Rattle.pcard_files.proofs.WordLemmas.{told_status}
use Rattle.pcard_files.proofs.call.run.Goals as goal

pub returns-in_default-clause-answers : goal.returns-in_default-clause-answers
returns-in_default-clause-answers g c = inl (
  map (string_bytes {Z = Global}) c.args.words.now,
  inl (c.in_default.ensures.none, refl),
  record {
    answers = c.run.ensures.answers;
    usage = c.run.ensures.usage;
    printed = c.run.ensures.printed;
    silent = λ is. ap g.E.Write.contents (c.run.ensures.no_errors is);
  },
)

pub returns-in-Ok-clause-answers : goal.returns-in-Ok-clause-answers
returns-in-Ok-clause-answers g c = inl (
  map (string_bytes {Z = Global}) (slice_set c.args.words.now c.in-Some.index c.in-Ok.text),
  inr (record {
    index = c.in-Some.index;
    file = c.in-Some.name.file.now;
    name = bytes_of c.in-Some.name.name;
    text = string_bytes c.in-Ok.text;
    names = c.in-Some.ensures.found;
    expression = c.in-Ok.ensures.found;
    are = map-set (string_bytes {Z = Global}) c.args.words.now c.in-Some.index c.in-Ok.text;
  }),
  record {
    answers = c.run-in-Ok.ensures.answers;
    usage = c.run-in-Ok.ensures.usage;
    printed = c.run-in-Ok.ensures.printed;
    silent = λ is. ap g.E.Write.contents (c.run-in-Ok.ensures.no_errors is);
  },
)

pub returns-in-Err-clause-answers : goal.returns-in-Err-clause-answers
returns-in-Err-clause-answers g c = inr (record {
  index = c.in-Some.index;
  file = c.in-Some.name.file.now;
  name = bytes_of c.in-Some.name.name;
  fault = c.in-Err.fault;
  names = c.in-Some.ensures.found;
  refused = c.in-Err.ensures.refused;
  reported = c.tell.ensures;
  unread = refl;
  unprinted = refl;
})

pub returns-in-Err-clause-status : goal.returns-in-Err-clause-status
returns-in-Err-clause-status g c = told_status c.in-Some.name.file.now c.in-Err.fault _ _ c.tell.result c.tell.ensures
