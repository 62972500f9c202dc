-- By cases: the frame is being skipped, becomes too long now, or is held with the new bytes.
use Rattle.std.proofs.Common.{refl, arith}
use Rattle.std.proofs.lemmas.Result.{on_ok_weaker}
use Rattle.pcard_message.proofs.StreamLemmas.{skipped, kept, overflowed}
use Rattle.pcard_message.proofs.stream.Stream.hold.Goals as goal

pub returns-then-self-clause-printed : goal.returns-then-self-clause-printed
returns-then-self-clause-printed g c free longest given first was =
    skipped _ longest given _ _ first _ (g.W.Write.contents c.args.output.now) was refl _ free refl c.saturating_add-self.ensures c.if-self.true c.if-self.true

pub returns-then-part-saturating_sub-clause-printed : goal.returns-then-part-saturating_sub-clause-printed
returns-then-part-saturating_sub-clause-printed g c =
    on_ok_weaker c.print_overfull.result
    (λ h free longest given first was.
    overflowed _ longest given _ _ first _ _ was refl _ free refl c.saturating_add-self.ensures c.if-self.false refl (omega arith) h)
    c.print_overfull.ensures.printed

pub returns-in-Ok-clause-printed : goal.returns-in-Ok-clause-printed
returns-in-Ok-clause-printed g c free longest given first was =
    kept _ longest given _ _ first _ (g.W.Write.contents c.args.output.now) was refl _ free refl c.saturating_add-self.ensures c.if-self.false c.if-self.false (omega arith)
    c.in-Ok.ensures.items
