-- An array of two items is the pair of them.
use Rattle.std.proofs.Common.{◌≡◌, get_or, refl, ◌∙◌, arith}
use Rattle.std.proofs.lemmas.Grind.{common_steps}
use Rattle.serde_json.specs.Data.{no_items, item}
use Rattle.postcard_value_json_read.proofs.Groups.{two_items}
use Rattle.postcard_value_json_read.proofs.find.pair_in.Goals as goal

pub returns-in-Some-clause-found : goal.returns-in-Some-clause-found
returns-in-Some-clause-found c =
    let js = c.in-Some.items.now.items in
    let j = c.index.result.now in
    let k = c.index-in-Some.result.now in
    let first : j ≡ get_or js 0 j = grind (arith, common_steps) in
    let second : k ≡ get_or js 1 k = grind (arith, common_steps) in
    c.in-Some.ensures.found.0 ∙ two_items js j k c.in-Some.ensures.found.1 first second

pub returns-in-None-clause-none : goal.returns-in-None-clause-none
returns-in-None-clause-none c = λ d e is. c.in-None.ensures.none (item d (item e no_items)) is refl
