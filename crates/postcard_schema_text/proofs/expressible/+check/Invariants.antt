-- The functions end by the depth that is left. The parts from a loop's place on decide about all parts.
use Rattle.std.proofs.Common.{◌+◌, ◌*◌}
use Rattle.postcard_schema.specs.Views.{named_views, views}
use Rattle.postcard_schema_text.specs.declared.error.TextError.{TextError}
use Rattle.postcard_schema_text.specs.Expressible.{AllHaveText, ContentsHaveText, SomeContentHasFlaw, SomeHasFlaw}
use Rattle.postcard_schema_text.proofs.Reaches.{Reaches}
use Rattle.postcard_schema_text.proofs.expressible.+check.Given as goal

abbrev pub decreases-check : goal.decreases-check
decreases-check l = 3 * l.depth

abbrev pub decreases-check_element : goal.decreases-check_element
decreases-check_element l = 3 * l.depth + 1

abbrev pub decreases-check_array : goal.decreases-check_array
decreases-check_array l = 3 * l.depth + 2

abbrev pub decreases-check_entry : goal.decreases-check_entry
decreases-check_entry l = 3 * l.depth + 1

abbrev pub decreases-check_parts : goal.decreases-check_parts
decreases-check_parts l = 3 * l.depth + 1

abbrev pub decreases-check_named : goal.decreases-check_named
decreases-check_named l = 3 * l.depth + 1

abbrev pub invariant-check_parts-loop-part : goal.invariant-check_parts-loop-part
invariant-check_parts-loop-part l = record {
  texts : Reaches (λ ss. AllHaveText l.depth (views ss)) l.part-index l.part-items;
  flaw : (e : TextError) → Reaches (λ ss. SomeHasFlaw e l.depth (views ss)) l.part-index l.part-items;
}

abbrev pub invariant-check_named-loop-part : goal.invariant-check_named-loop-part
invariant-check_named-loop-part l = record {
  texts : Reaches (λ ns. ContentsHaveText l.depth (named_views ns)) l.part-index l.part-items;
  flaw : (e : TextError) → Reaches (λ ns. SomeContentHasFlaw e l.depth (named_views ns)) l.part-index l.part-items;
}
