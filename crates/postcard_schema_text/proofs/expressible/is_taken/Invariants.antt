-- Whether one of the fields or variants from the loop's place on has the name says it of all.
use Rattle.postcard_schema.specs.Views.{named_views}
use Rattle.postcard_schema_text.specs.Expressible.{IsFreeIn, IsTakenBy}
use Rattle.postcard_schema_text.proofs.Reaches.{Reaches}
use Rattle.postcard_schema_text.proofs.expressible.is_taken.Given as goal

abbrev pub invariant-loop-other : goal.invariant-loop-other
invariant-loop-other l = record {
  taken : Reaches (λ ns. IsTakenBy (named_views ns) l.name) l.other-index l.named;
  free : Reaches (λ ns. IsFreeIn (named_views ns) l.name) l.other-index l.named;
}
