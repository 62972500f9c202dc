-- The tree of an entry is the group of the trees of its key and its value.
use Rattle.std.proofs.Common.{◌≡◌, [], ◌∷◌, ◌++◌, map, ap, ◌∙◌, rules}
use Rattle.postcard_wire.specs.Tree as nodes
use Rattle.postcard_value.specs.declared.value.Value.{Group, the_lemmas}
use Rattle.postcard_value_text.specs.{tree, trees}
use Rattle.postcard_value_text.proofs.read.entry.Goals as goal

pub returns-clause-both : goal.returns-clause-both
returns-clause-both c =
    let items = c.push-2.new.items in
    let seen : tree (Group items) ≡ nodes.Group (trees (map tree items.items)) = search (rules, the_lemmas) in
    seen ∙ ap (λ vs. nodes.Group (trees (map tree vs)))
    (c.in_ok-push-2.ensures.added ∙ ap (λ vs. vs ++ c.args.value ∷ []) (c.in_ok-push.ensures.added ∙ ap (λ vs. vs ++ c.args.key ∷ []) c.new-items.ensures.items))
