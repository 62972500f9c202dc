-- The first two parts of a group are the pair that is returned.
use Rattle.std.proofs.Common.{◌≡◌, ◌<◌, get_or, length, map, ap, subst, sym, ◌∙◌, arith, rules}
use Rattle.std.proofs.lemmas.Grind.{common_steps}
use Rattle.postcard_wire.specs.Tree.{trees}
use Rattle.postcard_wire.specs.Tree as nodes
use Rattle.postcard_value.specs.Tree.{tree}
use Rattle.postcard_value.specs.declared.value.Value.{Group, the_lemmas}
use Rattle.postcard_compat.specs.Telling.{IsPair}
use Rattle.postcard_compat.proofs.Telling.{pair_is}
use Rattle.postcard_compat.proofs.word.pair_of.Goals as goal

pub returns-in-Some-Some : goal.returns-in-Some-Some
returns-in-Some-Some c =
    let v = c.in-Group.parts in
    let a = c.in-Some-Some.key.now in
    let b = c.in-Some-Some.value.now in
    let low : 1 < length c.deref-2.result.now = grind (arith, common_steps) in
    let many : 1 < length v.items = subst (λ xs. 1 < length xs) c.deref-2.ensures.value low in
    let first : a ≡ get_or v.items 0 a = subst (λ xs. a ≡ get_or xs 0 a) c.deref.ensures.value c.in-Some-Some.ensures.lookup.1 in
    let second : b ≡ get_or v.items 1 b = subst (λ xs. b ≡ get_or xs 1 b) c.deref-2.ensures.value c.in-Some-Some.ensures'.lookup.1 in
    let seen : tree (Group v) ≡ nodes.Group (trees (map tree v.items)) = search (rules, the_lemmas) in
    subst (λ t. IsPair t (tree a) (tree b)) (sym (ap tree c.in-Group.is ∙ seen)) (pair_is v.items a b many first second)
