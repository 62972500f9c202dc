-- There are no paths and no steps at first.
use Rattle.std.proofs.Common.{◌++◌, map, ap, ◌∙◌}
use Rattle.std.proofs.lemmas.List.{map-id}
use Rattle.postcard_schema.specs.Paths.{plain_path, plain_step}
use Rattle.postcard_schema_size.specs.Endless.{after, endless}
use Rattle.postcard_schema_size.proofs.endless.endless_parts.Goals as goal

pub returns-clause-listed : goal.returns-clause-listed
returns-clause-listed c =
    let found = endless c.args.schema.now in
    c.in_ok-push_endless.ensures.added ∙ ap (λ ps. map plain_path ps ++ after (map plain_step c.new-here.result.items) found) c.new-paths.ensures.items
    ∙ ap (λ here. after (map plain_step here) found) c.new-here.ensures.items ∙ map-id found
