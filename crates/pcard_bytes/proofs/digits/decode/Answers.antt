-- Each turn decodes two digits. Where two can't be decoded, the whole text can't be.
use Rattle.std.proofs.Common.{sym, ◌∙◌}
use Rattle.std.proofs.lemmas.Bool.{eqb-true}
use Rattle.std.proofs.lemmas.List.{nil_from_length}
use Rattle.pcard_bytes.proofs.DigitLemmas.{before-start, before-step, before-refused, before-end}
use Rattle.pcard_bytes.proofs.digits.decode.Goals as goal

pub pairs-init : goal.pairs-init
pairs-init c = rw c.new-bytes.ensures.items (before-start c.args.text.now)

pub returns-in_default : goal.returns-in_default
returns-in_default c =
    let bad = rw c.split_at.ensures.front at (sym c.from_hex.ensures ∙ c.in_default.is) in
    before-refused _ _ _ _ c.pairs.invariant c.pairs-test.true bad

pub pairs-preserved : goal.pairs-preserved
pairs-preserved c =
    let good = rw c.split_at.ensures.front at (sym c.from_hex.ensures ∙ c.in-Ok.is) in
    rw (c.in_ok-push.ensures.items, c.split_at.ensures.back) (before-step _ _ _ _ c.pairs.invariant c.pairs-test.true good)

pub returns : goal.returns
returns c =
    before-end _ _ _ c.pairs.invariant (nil_from_length _ (eqb-true _ 0 (sym c.is_empty.ensures ∙ c.if-not-is_empty.false)))
