-- Each turn takes the bytes up to the next zero, and then the zero. At the end bytes without a zero are held.
use Rattle.std.proofs.Common.{◌<◌, [], length, refl, sym, ◌∙◌, eqb-true, arith}
use Rattle.pcard_message.proofs.StreamLemmas.{continues_none, continues_all, takes_last, takes_frame}
use Rattle.pcard_message.proofs.stream.Stream.take.Goals as goal

pub parts-init : goal.parts-init
parts-init g c = ([], refl, continues_none _ _ _)

pub returns-then-end-rest-clause-printed : goal.returns-then-end-rest-clause-printed
returns-then-end-rest-clause-printed g c =
    let i = c.parts.invariant in
    let cut = c.split_at.ensures in
    takes_last _ _ _ _ _ i.0 _ _ _ _ _ _ _ i.1 i.2 cut.by_index.0 cut.back_len c.if-end-rest.true (c.frame_len-end.ensures.no_zero c.if-end-rest.true) c.in_ok-hold.ensures.printed

pub parts-preserved : goal.parts-preserved
parts-preserved g c =
    let i = c.parts.invariant in
    let cut = c.split_at.ensures in
    let within = c.frame_len-end.ensures.within in
    let other = c.if-end-rest.false in
    let before : c.frame_len-end.result < length c.parts.rest.now = omega arith in
    takes_frame _ _ _ _ _ _ i.0 _ _ _ _ _ _ _ _ _ i.1 i.2 cut.front cut.back c.split_at-in-parts.ensures.back (c.frame_len-end.ensures.ends_at_zero before)
    c.in_ok-hold.ensures.printed c.in_ok-end_frame.ensures.printed

pub returns-clause-printed : goal.returns-clause-printed
returns-clause-printed g c =
    let i = c.parts.invariant in
    continues_all _ _ _ _ i.0 _ _ _ (eqb-true (length c.parts.rest.now) 0 (sym c.is_empty.ensures ∙ c.parts-test.false)) i.1 i.2
