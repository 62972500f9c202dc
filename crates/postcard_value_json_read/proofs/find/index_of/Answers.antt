-- The JSON has the form of no variant before the loop's place.
use Rattle.std.proofs.Common.{◌≡◌, get_or}
use Rattle.serde_json.specs.View.{view}
use Rattle.postcard_value_json_read.proofs.Variants.{none_more}
use Rattle.postcard_value_json_read.proofs.find.index_of.Goals as goal

pub returns-then-is_called-clause-found : goal.returns-then-is_called-clause-found
returns-then-is_called-clause-found c = λ low. (c.variant-item.result, rw c.deref-variant-items.ensures.value at c.variant-item.is, c.is_called.ensures.called c.if-is_called.true)

pub loop-i-preserved : goal.loop-i-preserved
loop-i-preserved c =
    let whole = c.deref-variant-items.ensures.value in
    let here : c.variant-item.result ≡ get_or c.args.variants.now.items c.loop-i.i c.variant-item.result = rw whole at c.variant-item.is in
    none_more (view c.args.json.now) c.args.variants.now.items c.loop-i.i c.variant-item.result (rw whole at c.loop-i-test.true) c.loop-i.invariant here (c.is_called.ensures.other c.if-is_called.false)
