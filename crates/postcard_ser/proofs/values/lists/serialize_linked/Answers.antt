-- One more element is written and fits, or it is refused, and so are the elements.
use Rattle.std.proofs.Common.{[], ◌∷◌, ◌++◌, ◌≡◌, List, sym, ap, subst, ◌∙◌, append_assoc, append-nil}
use Rattle.postcard_shape.proofs.Fitting.{all_append}
use Rattle.postcard_shape.specs.Lists.{AllFit}
use Rattle.postcard_ser.proofs.PartByPart.{wrote_err}
use Rattle.postcard_ser.proofs.Walked.{one_more, one_refused}
use Rattle.postcard_ser.proofs.values.lists.serialize_linked.Goals as goal

pub loop-element-preserved : goal.loop-element-preserved
loop-element-preserved g c =
    let k = c.in-Some.element.now in
    let done = c.loop-element.invariant.done in
    record {
      done = done ++ k ∷ [];
      is = append_assoc done (k ∷ []) c.next.new.self ∙ ap (λ z. done ++ z) (sym c.in-Some.ensures.steps) ∙ c.loop-element.invariant.is;
      wrote = one_more g.T.Shaped.shape done k c.loop-element.invariant.wrote c.in_ok-serialize.ensures.wrote;
      fits = all_append g.T.Shaped.shape.fits done (k ∷ []) c.loop-element.invariant.fits (c.in_ok-serialize.ensures.fits, tt);
    }

pub returns-in_err-serialize-clause-wrote : goal.returns-in_err-serialize-clause-wrote
returns-in_err-serialize-clause-wrote g c =
    let done = c.loop-element.invariant.done in
    wrote_err _ c.from_residual.ensures.1
    (one_refused g.T.Shaped.shape done c.in-Some.element.now c.next.new.self c.args.items.now
    (ap (λ z. done ++ z) (sym c.in-Some.ensures.steps) ∙ c.loop-element.invariant.is)
    c.loop-element.invariant.wrote c.in_err-serialize.ensures.wrote)

pub returns-clause-fits : goal.returns-clause-fits
returns-clause-fits g c =
    let done = c.loop-element.invariant.done in
    let all : done ≡ c.args.items.now = sym (append-nil done) ∙ ap (λ z. done ++ z) (sym c.in-None.ensures.steps.0) ∙ c.loop-element.invariant.is in
    subst (λ (z : List g.row.T.Denot). AllFit g.T.Shaped.shape.fits z) all c.loop-element.invariant.fits
