-- The variants of the schema are those that `push_cases` appended to an empty list.
use Rattle.std.proofs.Common.{◌++◌, ap, map, ◌∙◌}
use Rattle.postcard_described.specs.{first_text, names_of}
use Rattle.postcard_described.proofs.cases.enum_schema.Goals as goal

pub returns-clause-named : goal.returns-clause-named
returns-clause-named g c = λ same. (
  c.push_cases.new.variants,
  c.choice_schema.ensures.same,
  c.in_ok-push_cases.ensures.named same ∙ ap (λ ns. names_of ns ++ map first_text c.args.names.now) c.new-variants.ensures.items,
)
