-- No variant before the loop's place has the name.
use Rattle.std.proofs.Common.{◌≡◌, get_or, sym, ◌∙◌, true≢false}
use Rattle.std.proofs.lemmas.Bool.Decides.{Decides-eqb}
use Rattle.std.proofs.lemmas.Slice.Eq.{slice_eq-Decides}
use Rattle.postcard_value_text.proofs.Choices.{not_called_more}
use Rattle.postcard_value_text.proofs.read.index_of.Goals as goal

pub returns-then-eq-clause-found : goal.returns-then-eq-clause-found
returns-then-eq-clause-found c = λ low.
    let whole = c.deref-variant-items.ensures.value in
    let here : c.variant-item.result ≡ get_or c.args.variants.now.items c.loop-i.i c.variant-item.result = rw whole at c.variant-item.is in
    (c.variant-item.result, here, sym c.as_bytes.ensures.value ∙ (slice_eq-Decides Decides-eqb _ _ _ c.eq.ensures).0 c.if-eq.true)

pub loop-i-preserved : goal.loop-i-preserved
loop-i-preserved c =
    let whole = c.deref-variant-items.ensures.value in
    let here : c.variant-item.result ≡ get_or c.args.variants.now.items c.loop-i.i c.variant-item.result = rw whole at c.variant-item.is in
    not_called_more c.args.name.now c.args.variants.now.items c.loop-i.i c.variant-item.result (rw whole at c.loop-i-test.true) c.loop-i.invariant here
    (λ is. true≢false (sym ((slice_eq-Decides Decides-eqb _ _ _ c.eq.ensures).1 (c.as_bytes.ensures.value ∙ is)) ∙ c.if-eq.false))
