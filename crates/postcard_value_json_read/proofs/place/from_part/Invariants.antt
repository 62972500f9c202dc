-- The steps that are left lead from the text that is left to the part.
use Rattle.std.proofs.Common.{List, ℕ, drop, map}
use Rattle.postcard_schema.specs.Paths.{plain_path, plain_step}
use Rattle.postcard_value_json_read.specs.Parts.{IsPartAt, Lead}
use Rattle.postcard_value_json_read.specs.Values.{IsEndOf}
use Rattle.postcard_value_json_read.proofs.place.from_part.Given as goal

abbrev pub invariant-loop-step : goal.invariant-loop-step
invariant-loop-step l = record {
  part : (rest : List ℕ) → IsPartAt (plain_path l.fn.path) l.fn.text rest → Lead (map plain_step (drop l.step-index l.step-items)) l.rest rest;
  end : IsEndOf l.fn.text l.rest;
}
