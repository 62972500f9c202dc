-- Both arguments stand for types, and the outcome of comparing these is printed.
use Rattle.std.proofs.Common.{inr, refl, Result, Ok, Err, IfOk, IfErr, string_bytes}
use Rattle.postcard_schema.specs.declared.schema.Schema.{Schema}
use Rattle.pcard_print.specs.declared.error.PrintError.{PrintError}
use Rattle.pcard_compat.specs.Calls.{FoundBy}
use Rattle.pcard_compat.specs.Outcomes.{FailsToShow, IsOutcome}
use Rattle.pcard_compat.specs.declared.outcome.Outcome.{Outcome}
use Rattle.pcard_compat.specs.declared.request.Options.{Options}
use Rattle.pcard_compat.proofs.command.answer.Goals as goal

found_by : (options : Options) (old new : Schema) (r : Result Outcome PrintError) → IfOk r (λ outcome. IsOutcome options old new (string_bytes outcome.text) outcome.is_safe)
    → IfErr r (FailsToShow options.json) → FoundBy options old new r
found_by options old new (Ok outcome) is refused = is
found_by options old new (Err error) is refused = refused

pub returns-clause-answers : goal.returns-clause-answers
returns-clause-answers g c = inr (inr (record {
  options = c.in-Ok.request.options;
  old_word = c.in-Ok.request.old.now;
  new_word = c.in-Ok.request.new.now;
  old_type = c.in-Ok-type_of_word.old;
  new_type = c.in-Ok-type_of_word-2.new;
  result = c.outcome_of.result;
  request = c.in-Ok.ensures.request;
  is_old = c.in-Ok-type_of_word.ensures.found;
  is_new = c.in-Ok-type_of_word-2.ensures.found;
  found = found_by c.in-Ok.request.options c.in-Ok-type_of_word.old c.in-Ok-type_of_word-2.new c.outcome_of.result c.outcome_of.ensures.outcome c.outcome_of.ensures.refused;
  ended = c.end_call.ensures;
  silent = refl;
}))
