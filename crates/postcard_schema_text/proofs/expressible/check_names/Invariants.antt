-- The names from the loop's place on decide about all names.
use Rattle.postcard_schema.specs.Views.{named_views}
use Rattle.postcard_schema_text.specs.declared.error.TextError.{TextError}
use Rattle.postcard_schema_text.specs.Expressible.{AreNames, HasNameFlaw}
use Rattle.postcard_schema_text.proofs.Reaches.{Reaches}
use Rattle.postcard_schema_text.proofs.expressible.check_names.Given as goal

abbrev pub invariant-loop-i : goal.invariant-loop-i
invariant-loop-i l = record {
  names : Reaches (λ ns. AreNames l.kind (named_views ns)) l.i l.named.items;
  flaw : (e : TextError) → Reaches (λ ns. HasNameFlaw e l.kind (named_views ns)) l.i l.named.items;
}
