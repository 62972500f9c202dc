-- The count was read, and then reading stops in an element. Or the count itself can't be read.
use Rattle.std.proofs.Common.{inl, refl}
use Rattle.std.proofs.lemmas.Result.{IfOk-weaker}
use Rattle.postcard_wire.specs.Tree.{Num}
use Rattle.postcard_value.specs.Refused.{at_count}
use Rattle.postcard_value.proofs.FrontLemmas.{number_read}
use Rattle.postcard_value.proofs.PlaceLemmas.{list_finds}
use Rattle.postcard_value.proofs.place.enter_list.Goals as goal

pub returns-in-Ok-clause-found : goal.returns-in-Ok-clause-found
returns-in-Ok-clause-found c = λ s held is inner.
    let r = c.in-Ok.ensures.gives in
    let n = number_read 64 r.tree c.in-Ok.count r.front r.is_read r.has r.is_spelled in
    IfOk-weaker c.enter_elements.result _ _ (λ found h. list_finds s held c.args.bytes.now r.front c.in-Ok.rest.now c.in-Ok.count is r.joins n.0 n.1 _ _ found h)
    (rw (← inner) at c.enter_elements.ensures.found)

pub returns-in-Err-clause-found : goal.returns-in-Err-clause-found
returns-in-Err-clause-found c = λ s held is inner. (
  λ none. at_count s _ (inl (held, is)) (λ n front rest low num cut. (c.in-Err.ensures.accepts (Num 64 n) front rest
      (n, refl, low) num cut).1),
  refl,
)
