-- The pieces that are joined are the line of JSON.
use Rattle.std.proofs.Common.{subst, string_bytes}
use Rattle.pcard_compat.specs.{IsMember, codes}
use Rattle.pcard_compat.proofs.object.json_line.Goals as goal

pub returns-clause-json : goal.returns-clause-json
returns-clause-json c = record {
  differences = string_bytes c.in_ok-differences.differences;
  notes = string_bytes c.in_ok-notes.notes;
  example = string_bytes c.in_ok-example.example;
  are_differences = subst (λ ds. IsMember (codes "differences") ds (string_bytes c.in_ok-differences.differences)) c.deref.ensures.value c.in_ok-differences.ensures;
  are_notes = subst (λ ds. IsMember (codes "notes") ds (string_bytes c.in_ok-notes.notes)) c.deref-2.ensures.value c.in_ok-notes.ensures;
  is_example = c.in_ok-example.ensures.member;
  object = rw c.verdict_name-word.ensures at c.in_ok-line.ensures.ok;
}
