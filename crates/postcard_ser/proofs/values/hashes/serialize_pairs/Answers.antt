-- One more entry is written and fits, or it is refused, and so are the entries.
use Rattle.std.proofs.Common.{[], ◌∷◌, ◌++◌, ◌≡◌, List, sym, ap, subst, ◌∙◌, append_assoc, append-nil}
use Rattle.postcard_shape.proofs.Fitting.{all_append}
use Rattle.postcard_shape.specs.Lists.{AllFit}
use Rattle.postcard_shape.specs.Maps.{pair}
use Rattle.postcard_ser.proofs.PartByPart.{wrote_err}
use Rattle.postcard_ser.proofs.Walked.{one_more, one_refused}
use Rattle.postcard_ser.proofs.values.hashes.serialize_pairs.Goals as goal

pub loop-entry-preserved : goal.loop-entry-preserved
loop-entry-preserved g c =
    let s = pair g.K.Shaped.shape g.V.Shaped.shape in
    let e : g.row.K.Denot × g.row.V.Denot = (c.in-Some.entry.0.now, c.in-Some.entry.1.now) in
    let done = c.loop-entry.invariant.done in
    record {
      done = done ++ e ∷ [];
      is = append_assoc done (e ∷ []) c.next.new.self ∙ ap (λ z. done ++ z) (sym c.in-Some.ensures.steps) ∙ c.loop-entry.invariant.is;
      wrote = one_more s done e c.loop-entry.invariant.wrote c.in_ok-serialize.ensures.wrote;
      fits = all_append s.fits done (e ∷ []) c.loop-entry.invariant.fits (c.in_ok-serialize.ensures.fits, tt);
    }

pub returns-in_err-serialize-clause-wrote : goal.returns-in_err-serialize-clause-wrote
returns-in_err-serialize-clause-wrote g c =
    let s = pair g.K.Shaped.shape g.V.Shaped.shape in
    let e : g.row.K.Denot × g.row.V.Denot = (c.in-Some.entry.0.now, c.in-Some.entry.1.now) in
    let done = c.loop-entry.invariant.done in
    wrote_err _ c.from_residual.ensures.1
    (one_refused s done e c.next.new.self c.args.entries.now.entries
    (ap (λ z. done ++ z) (sym c.in-Some.ensures.steps) ∙ c.loop-entry.invariant.is)
    c.loop-entry.invariant.wrote c.in_err-serialize.ensures.wrote)

pub returns-clause-fits : goal.returns-clause-fits
returns-clause-fits g c =
    let done = c.loop-entry.invariant.done in
    let all : done ≡ c.args.entries.now.entries = sym (append-nil done) ∙ ap (λ z. done ++ z) (sym c.in-None.ensures.steps.0) ∙ c.loop-entry.invariant.is in
    subst (λ (z : List (g.row.K.Denot × g.row.V.Denot)). AllFit (pair g.K.Shaped.shape g.V.Shaped.shape).fits z) all c.loop-entry.invariant.fits
