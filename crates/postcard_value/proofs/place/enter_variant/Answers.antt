-- The index was read, and then reading stops in the variant's content. Or the index itself can't be read.
use Rattle.std.proofs.Common.{◌≡◌, ◌<◌, ◌+◌, [], ◌∷◌, length, get_or, refl, arith}
use Rattle.std.proofs.lemmas.Grind.{common_steps}
use Rattle.postcard_wire.specs.Tree.{Num}
use Rattle.postcard_schema.specs.declared.path.Step.TheVariants.{Name}
use Rattle.postcard_value.specs.Refused.{at_index, in_variant}
use Rattle.postcard_value.proofs.FrontLemmas.{number_read, variant_none, variant_depth}
use Rattle.postcard_value.proofs.place.enter_variant.Goals as goal

pub returns-in-None-clause-found : goal.returns-in-None-clause-found
returns-in-None-clause-found c = λ s is.
    let outside : length c.args.variants.now.items < c.in-Ok.index + 1 = grind (arith, common_steps) in (
      λ none. at_index s _ c.args.variants.now is
          (λ i front rest low few num cut.
          let same : Num 32 i ≡ Num 32 c.in-Ok.index = (c.in-Ok.ensures.accepts (Num 32 i) front rest (i, refl, few) num cut).0 in
          let equal : i ≡ c.in-Ok.index = cc in
          omega arith),
      refl,
    )

pub returns-in-Err-clause-found : goal.returns-in-Err-clause-found
returns-in-Err-clause-found c = λ s is. (
  λ none. at_index s _ c.args.variants.now is (λ i front rest low few num cut. (c.in-Err.ensures.accepts (Num 32 i) front rest
      (i, refl, few) num cut).1),
  refl,
)

pub returns-in_ok-push-in-Some-clause-found : goal.returns-in_ok-push-in-Some-clause-found
returns-in_ok-push-in-Some-clause-found c = λ s is.
    let r = c.in-Ok.ensures.gives in
    let i = c.in-Ok.index in
    let x = c.in-Some.variant.now in
    let xs = c.args.variants.now.items in
    let n = number_read 32 r.tree i r.front r.is_read r.has r.is_spelled in
    let inside : i < length c.deref.result.now = grind (arith, common_steps) in
    let low : i < length xs = rw c.deref.ensures.value at inside in
    let found : x ≡ get_or xs i x = rw c.deref.ensures.value at c.in-Some.ensures.lookup.1 in
    let name = c.deref-in-Some.result in
    let entered = in_variant s c.args.variants.now i x name r.front is low found c.deref-in-Some.ensures n.0 n.1 in
    let lack = variant_none s c.args.variants.now c.args.bytes.now r.front c.in-Ok.rest.now i x is low found r.joins n.0 n.1 in
    let less = variant_depth s c.args.variants.now i x is low found in
    ((r.front, Name name ∷ [], entered, c.in_ok-push-in-Some.ensures.items, r.joins, lack), less)
