-- One more key is written and fits, or it is refused, and so are the keys.
use Rattle.std.proofs.Common.{[], ◌∷◌, ◌++◌, ◌≡◌, List, sym, ap, subst, ◌∙◌, append_assoc, append-nil}
use Rattle.postcard_shape.proofs.Fitting.{all_append}
use Rattle.postcard_shape.specs.Lists.{AllFit}
use Rattle.postcard_ser.proofs.PartByPart.{wrote_err}
use Rattle.postcard_ser.proofs.Walked.{one_more, one_refused}
use Rattle.postcard_ser.proofs.values.hashes.serialize_keys.Goals as goal

pub loop-key-preserved : goal.loop-key-preserved
loop-key-preserved g c =
    let k = c.in-Some.key.now in
    let done = c.loop-key.invariant.done in
    record {
      done = done ++ k ∷ [];
      is = append_assoc done (k ∷ []) c.next.new.self ∙ ap (λ z. done ++ z) (sym c.in-Some.ensures.steps) ∙ c.loop-key.invariant.is;
      wrote = one_more g.K.Shaped.shape done k c.loop-key.invariant.wrote c.in_ok-serialize.ensures.wrote;
      fits = all_append g.K.Shaped.shape.fits done (k ∷ []) c.loop-key.invariant.fits (c.in_ok-serialize.ensures.fits, tt);
    }

pub returns-in_err-serialize-clause-wrote : goal.returns-in_err-serialize-clause-wrote
returns-in_err-serialize-clause-wrote g c =
    let done = c.loop-key.invariant.done in
    wrote_err _ c.from_residual.ensures.1
    (one_refused g.K.Shaped.shape done c.in-Some.key.now c.next.new.self c.args.keys.now.keys
    (ap (λ z. done ++ z) (sym c.in-Some.ensures.steps) ∙ c.loop-key.invariant.is)
    c.loop-key.invariant.wrote c.in_err-serialize.ensures.wrote)

pub returns-clause-fits : goal.returns-clause-fits
returns-clause-fits g c =
    let done = c.loop-key.invariant.done in
    let all : done ≡ c.args.keys.now.keys = sym (append-nil done) ∙ ap (λ z. done ++ z) (sym c.in-None.ensures.steps.0) ∙ c.loop-key.invariant.is in
    subst (λ (z : List g.row.K.Denot). AllFit g.K.Shaped.shape.fits z) all c.loop-key.invariant.fits
