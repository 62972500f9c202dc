-- Each turn appends one variant, whose content is the unit.
use Rattle.std.proofs.Common.{◌++◌, [], ◌∷◌, map, sym, ap, ◌∙◌}
use native.Mathlib.Numerals.{add-one}
use Rattle.std.proofs.lemmas.List.{map-append}
use Rattle.postcard_schema.specs.declared.schema.Schema.TheVariants.{Tuple}
use Rattle.postcard_schema.specs.Lemmas.{type_of_tuple}
use Rattle.postcard_schema.specs.Meaning.{group, types_of}
use Rattle.postcard_described.specs.{contents, type_of, units}
use Rattle.postcard_described.specs.Described.{units_next}
use Rattle.postcard_described.proofs.cases.units_schema.Goals as goal

pub loop-name-preserved : goal.loop-name-preserved
loop-name-preserved c =
    let old = contents c.loop-name.variants.items in
    let k = c.loop-name.name-index in
    let unit = Tuple c.new.result in
    ap (map type_of) c.in_ok-push_named.ensures.added ∙ map-append type_of old _ ∙ ap (λ ts. ts ++ type_of unit ∷ []) c.loop-name.invariant
    ∙ ap (λ t. units k ++ t ∷ []) (type_of_tuple c.new.result ∙ ap (λ ss. group (types_of ss)) c.new.ensures.items)
    ∙ sym (units_next k) ∙ ap units (sym (add-one k))
