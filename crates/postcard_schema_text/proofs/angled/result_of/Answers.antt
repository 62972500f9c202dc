-- The enum that `result_of` makes has just the variants `Ok` and `Err`, with the two types.
use Rattle.std.proofs.Common.{◌≡◌, List, [], ◌∷◌, ◌++◌, refl, ap, ◌∙◌}
use Rattle.postcard_schema.specs.declared.schema.Named.{Named}
use Rattle.postcard_schema.specs.declared.schema.Schema.{Schema}
use Rattle.postcard_schema_text.proofs.angled.result_of.Goals as goal

-- Two that are added to an empty list.
two : (n m : Named Schema) (none one both : List (Named Schema)) → none ≡ [] → one ≡ none ++ n ∷ [] → both ≡ one ++ m ∷ [] → both ≡ n ∷ m ∷ []
two n m none one both e f g = g ∙ ap (λ ns. ns ++ m ∷ []) (f ∙ ap (λ ns. ns ++ n ∷ []) e)

pub returns-clause-made : goal.returns-clause-made
returns-clause-made c =
    let n = c.in_ok-named in
    let m = c.in_ok-named-2 in
    let items = two n.field-0 m.field-0 _ _ _ c.new-variants.ensures.items c.in_ok-push.ensures.added c.in_ok-push-2.ensures.added in
    (c.push-2.new.items, n.field-0, m.field-0, refl, items, n.ensures.held, m.ensures.held)
