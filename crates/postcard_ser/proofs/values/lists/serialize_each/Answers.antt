-- One more element is written and fits, or it is refused, and so is the list.
use Rattle.std.proofs.Common.{◌<◌, length, Err, Ok, arith, subst}
use Rattle.std.specs.Prelude.{Any}
use Rattle.postcard_shape.proofs.Fitting.{one_more_fits}
use Rattle.postcard_ser.specs.Writing.{Wrote, never}
use Rattle.postcard_ser.proofs.Elements.{elements_more, elements_cut, any_at}
use Rattle.postcard_ser.proofs.PartByPart.{wrote_then, wrote_stop, wrote_err, wrote_ok}
use Rattle.postcard_ser.proofs.values.lists.serialize_each.Goals as goal

pub returns-in_err-serialize-clause-wrote : goal.returns-in_err-serialize-clause-wrote
returns-in_err-serialize-clause-wrote g c =
    let xs = c.args.items.now in let k = c.loop-item.item-index in let x = c.item-item.result in let below : k < length xs = omega arith in
    let s = g.T.Shaped.shape in
    wrote_err _ c.from_residual.ensures.1
    (subst (λ z. Wrote g.F.Flavor c.args.serializer.now.output z (λ e. Any (λ y. s.refusal y e) xs) s.text (Err c.in_err-serialize.field-0.0) c.serialize.new.serializer.output)
    (elements_cut s.tree xs k x below c.item-item.is)
    (wrote_then _ _ c.loop-item.invariant.wrote
    (wrote_stop _ _ c.in_err-serialize.ensures.wrote (λ e. any_at {P = λ y. s.refusal y e} xs k x below c.item-item.is) (λ t. t)) (λ e q. q) (λ t. t)))

pub loop-item-preserved : goal.loop-item-preserved
loop-item-preserved g c =
    let xs = c.args.items.now in let k = c.loop-item.item-index in let x = c.item-item.result in let below : k < length xs = omega arith in
    let s = g.T.Shaped.shape in
    record {
      wrote = subst (λ z. Wrote g.F.Flavor c.args.serializer.now.output z never ⊥ (Ok tt) c.serialize.new.serializer.output)
          (elements_more s.tree xs k x below c.item-item.is)
          (wrote_then _ _ c.loop-item.invariant.wrote (wrote_ok c.in_ok-serialize.ensures.wrote) (λ e q. q) (λ t. t));
      fits = one_more_fits s.fits xs k x below c.item-item.is c.loop-item.invariant.fits c.in_ok-serialize.ensures.fits;
    }
