-- One more entry is written and fits, or it is refused, and so are the entries.
use Rattle.std.proofs.Common.{[], ◌∷◌, ◌++◌, ◌≡◌, ◌⊎◌, List, Ok, Err, sym, ap, subst, refl, ◌∙◌, append_assoc, append-nil}
use Rattle.std.specs.Prelude.{map, Any}
use Rattle.postcard_wire.specs.Spelling.{canonical_all}
use Rattle.postcard_wire.specs.Tree.{trees}
use Rattle.postcard_wire.specs.declared.error.Error.{Error}
use Rattle.postcard_shape.proofs.Fitting.{all_append}
use Rattle.postcard_shape.specs.Maps.{entry_tree}
use Rattle.postcard_shape.specs.Lists.{AllFit}
use Rattle.postcard_ser.specs.Writing.{Wrote, never}
use Rattle.postcard_ser.proofs.Elements.{elements_append}
use Rattle.postcard_ser.proofs.Entries.{any_mid}
use Rattle.postcard_ser.proofs.PartByPart.{wrote_then, wrote_stop, wrote_err, wrote_ok, wrote_last, either_part}
use Rattle.postcard_ser.proofs.values.maps.serialize_entries.Goals as goal

pub loop-entry-preserved : goal.loop-entry-preserved
loop-entry-preserved g c =
    let k = g.K.Shaped.shape in let v = g.V.Shaped.shape in
    let e : g.row.K.Denot × g.row.V.Denot = (c.in-Some.entry.0.now, c.in-Some.entry.1.now) in
    let done = c.loop-entry.invariant.done in
    let fit = c.in_ok-serialize.ensures.fits in
    record {
      done = done ++ e ∷ [];
      is = append_assoc done (e ∷ []) c.next.new.self ∙ ap (λ z. done ++ z) (sym c.in-Some.ensures.steps) ∙ c.loop-entry.invariant.is;
      wrote = subst (λ z. Wrote g.F.Flavor c.args.serializer.now.output z never ⊥ (Ok tt) c.serialize.new.serializer.output)
          (sym (elements_append (entry_tree k.tree v.tree) done (e ∷ [])))
          (wrote_then _ _ c.loop-entry.invariant.wrote (wrote_last (wrote_ok c.in_ok-serialize.ensures.wrote)) (λ e q. q) (λ t. t));
      fits = all_append (λ (e : g.row.K.Denot × g.row.V.Denot). k.fits e.0 × v.fits e.1) done (e ∷ []) c.loop-entry.invariant.fits ((fit.0, fit.1.0), tt);
    }

pub returns-in_err-serialize-clause-wrote : goal.returns-in_err-serialize-clause-wrote
returns-in_err-serialize-clause-wrote g c =
    let k = g.K.Shaped.shape in let v = g.V.Shaped.shape in
    let f = entry_tree k.tree v.tree in
    let R : g.row.K.Denot × g.row.V.Denot → Error → Type 0 = λ x y. k.refusal x.0 y ⊎ v.refusal x.1 y in
    let e : g.row.K.Denot × g.row.V.Denot = (c.in-Some.entry.0.now, c.in-Some.entry.1.now) in
    let done = c.loop-entry.invariant.done in
    let rest = c.next.new.self in
    let all : done ++ (e ∷ rest) ≡ c.args.entries.now.entries = ap (λ z. done ++ z) (sym c.in-Some.ensures.steps) ∙ c.loop-entry.invariant.is in
    let T = k.text ⊎ v.text in
    wrote_err _ c.from_residual.ensures.1
    (subst (λ z. Wrote g.F.Flavor c.args.serializer.now.output (canonical_all (trees (map f z))) (λ y. Any (λ x. R x y) z) T (Err c.in_err-serialize.field-0.0) c.serialize.new.serializer.output) all
    (subst (λ z. Wrote g.F.Flavor c.args.serializer.now.output z (λ y. Any (λ x. R x y) (done ++ (e ∷ rest))) T (Err c.in_err-serialize.field-0.0) c.serialize.new.serializer.output)
    (sym (elements_append f done (e ∷ rest)))
    (wrote_then _ _ c.loop-entry.invariant.wrote (wrote_stop _ _ c.in_err-serialize.ensures.wrote (λ y q. any_mid {P = λ x. R x y} done e rest _ refl (either_part q)) either_part) (λ e q. q) (λ t. t))))

pub returns-clause-fits : goal.returns-clause-fits
returns-clause-fits g c =
    let done = c.loop-entry.invariant.done in
    let all : done ≡ c.args.entries.now.entries = sym (append-nil done) ∙ ap (λ z. done ++ z) (sym c.in-None.ensures.steps.0) ∙ c.loop-entry.invariant.is in
    subst (λ (z : List (g.row.K.Denot × g.row.V.Denot)). AllFit (λ e. g.K.Shaped.shape.fits e.0 × g.V.Shaped.shape.fits e.1) z) all c.loop-entry.invariant.fits
